-- What the code of `prepare` and of `begin` has found, in the words of their promises.
--   lengths_are, prepared_length   the lengths are as they must be, or not
--   prepared_fault    a node is refused
--   prepared_passed, prepared_ready   the nodes have passed, so the table is checked by its plan
--   prepared_cycles   the nodes pass, and the verdict is that on cycles
--   opens_refused     the table is refused
--   opens_11          the start is not in the table
--   opens_reads, opens_ready   the plan may be walked from the start
--   judged_past       what an answer says that no refusal is
--   opens, opened_means   `begin` accepts exactly an accepted table and a start in it
-- Assumes nothing.
use mathlib.Core.Path.{◌≡◌, refl, ap, ◌∙◌}
use mathlib.Core.Bool.{true, false}
use mathlib.Core.List.{List}
use Prim.Native.Nat.{ℕ, ◌*◌, ◌≤◌, ◌<◌}
use native.Mathlib.Omega.{arith}
use lib.Dec.{ltb}
use lib.ListN.{length}
use borrow.Author.Tests.{eq-eqb, le-leb, lt-ltb, le-ltb, ltb-true}
use Rattle.numbers.specs.Size.{Size}
use Rattle.numbers.proofs.Tests.{pick_by}
use Rattle.grammar.specs.declared.entry.Entry.{Entry}
use Rattle.grammar.specs.Table.{nodes, lengths}
use Rattle.grammar.specs.Sizes.{size_at, scan, passed, sizes}
use Rattle.grammar.specs.Checked.{Checked}
use Rattle.grammar.specs.Plan.{size_in, Planned, WeighedBy, AllWeighed, Ready}
use Rattle.grammar.specs.Passed.{AllPassed}
use Rattle.grammar.specs.Verdict.{cycles, settled, verdict, answer, check_says}
use Rattle.grammar.specs.declared.refusal.Refusal.TheVariants.{Length, NoSuchStart}
use Rattle.std.specs.Prelude.{Ok, Err}
use Rattle.grammar.specs.Refusals.{Verdict, accepted, refused}
use Rattle.grammar.specs.declared.refusal.Refused.{Refused}
use Rattle.grammar.proofs.Checked.{checked_of}
pub use Rattle.grammar.proofs.Lengths.{lengths_are}
use Rattle.grammar.proofs.PlanSizes.{passed_of, ready_of}
use Rattle.grammar.proofs.Values.{answer_one}
use Rattle.planning.proofs.Plans.{plan_sizes}
use Rattle.walk.specs.Plan.{Reading}
use Rattle.checked.specs.Prepared.{Blank, Prepared}
use Rattle.checked.specs.Opening.{judged, opening}
use Rattle.checked.specs.Opened.{Opens}
use Rattle.checked.proofs.Walking.{same_rules, stands_at}

-- ---- the check
pub refused_not : {e : Refused} → Err e ≡ accepted → ⊥
refused_not e = let x : ◌≡◌ {A = ℕ} 0 1 = cc in omega arith

pub prepared_length : (t p : List ℕ) (plan : List Entry) → false ≡ lengths t p → Prepared t p plan (refused Length 0)
unfolding verdict check_says
prepared_length t p plan e = record { says = rw (← e); ready = λ a. absurd (refused_not a) }

-- what was found by the weighing, at the arm's constructor
told : {t p : List ℕ} {plan : List Entry} {v w : Verdict} → AllWeighed t p plan v → v ≡ w → WeighedBy t p plan w
told {t} {p} {plan} a e = rw e at a.is

module _ {t p : List ℕ} {plan : List Entry} {v : Verdict} (a : AllWeighed t p plan v)
    (l : (length t ≡ 3 * nodes t) × (1 ≤ nodes t) × (nodes t ≤ 256) × (length p ≤ 4096)) where
  long : lengths t p ≡ true
  long = rw (eq-eqb (length t) (3 * nodes t) l.0, le-leb 1 (nodes t) l.1, le-leb (nodes t) 256 l.2, le-leb (length p) 4096 l.3)

  pub prepared_fault : {e : Refused} → v ≡ Err e → Prepared t p plan (Err e)
  unfolding verdict settled check_says
  prepared_fault q = record { says = rw (long, told a q); ready = λ x. absurd (refused_not x) }

  module _ {u : Unit {0}} (e : v ≡ Ok u) where
    passes : scan t p (nodes t) ≡ passed (sizes t p)
    passes = (told a e).0

    plans : Planned t (sizes t p) (nodes t) plan
    plans = (told a e).1

    checked : Checked t p (size_at (sizes t p))
    checked = checked_of t p passes l.0 l.2

    pub prepared_passed : AllPassed t p plan
    prepared_passed = passed_of long a e

    pub prepared_ready : Ready t p plan
    prepared_ready = ready_of prepared_passed

    pub prepared_cycles : {old : List Entry} → Blank t old → length plan ≡ length old → {w : Verdict} → w ≡ cycles t p (size_in plan) → Prepared t p plan w
    unfolding verdict settled check_says
    prepared_cycles b k f = record {
      says = rw (long, passes) (ap answer (f ∙ ap (λ (z : ℕ → Size). cycles t p z) (plan_sizes plans)));
      ready = λ x. record { passes = passes; plans = plans; checked = checked; short = omega (arith, b.short); slight = l.3 };
    }

-- ---- then the start
module _ {t p : List ℕ} {plan : List Entry} {v : Verdict} (h : Prepared t p plan v) (i : ℕ) where
  is : v ≡ verdict t p
  unfolding check_says
  is = answer_one v (verdict t p) h.says

  pub opens_refused : {e : Refused} → v ≡ Err e → Opens t p i (Err e)
  unfolding opening
  opens_refused q = record { is = rw (← is, q) }

  module _ {u : Unit {0}} (e : v ≡ Ok u) where
    pub opens_11 : nodes t ≤ i → Opens t p i (refused NoSuchStart 0)
    unfolding opening
    opens_11 l = record { is = rw (← is, e, le-ltb i (nodes t) l) }

    module _ (l : i < nodes t) where
      pub opens_reads : Reading plan p i
      opens_reads = stands_at (h.ready e) l

      pub opens_ready : Opens t p i (Ok (record { pool = p; plan = plan; start = i }))
      unfolding opening
      opens_ready = record { is = record { accepts = rw (← is, e, lt-ltb i (nodes t) l); same = same_rules (h.ready e); start = refl } }

-- an answer that no refusal is comes after the verdict
pub judged_past : {A : Type 0} (refuses : Refused → A) (v : Verdict) {x y : A} → ((r : Refused) → refuses r ≡ y → ⊥)
    → judged refuses v x ≡ y → (v ≡ accepted) × (x ≡ y)
judged_past refuses (Ok u) never e = (refl, e)
judged_past refuses (Err r) never e = absurd (never r e)

-- an accepted table and a start in it
pub opens : (t p : List ℕ) → verdict t p ≡ accepted → (i : ℕ) → i < nodes t → opening t p i ≡ accepted
unfolding opening
opens t p a i l = rw (a, lt-ltb i (nodes t) l)

pub opened_means : (t p : List ℕ) (i : ℕ) → opening t p i ≡ accepted → (verdict t p ≡ accepted) × (i < nodes t)
unfolding opening
opened_means t p i e =
    let (a, f) = judged_past Err (verdict t p) (λ r. refused_not) e in
    (a, pick_by (λ (v : Verdict). v ≡ accepted → i < nodes t) (ltb i (nodes t)) (λ u x. ltb-true i (nodes t) u) (λ u x. absurd (refused_not x)) f)
