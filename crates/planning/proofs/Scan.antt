-- The nodes rising, as the loop of `weigh_all` goes through them.
--   Weighing          the nodes below n have passed, and the plan holds them
--   weighing_none, weighing_more, weighing_fault, weighing_end   its turns
-- Assumes nothing.
use mathlib.Core.Path.{◌≡◌, refl, sym, ap, ◌∙◌}
use mathlib.Core.List.{List, [], ◌∷◌, ◌++◌}
use Prim.Native.Nat.{ℕ, suc, ◌+◌, ◌≤◌, ◌<◌, zero-le}
use native.Mathlib.Numerals.{add-one}
use native.Mathlib.Omega.{arith}
use lib.ListN.{length, set, replicate, length-set}
use Rattle.numbers.specs.Size.{Size, code_of}
use Rattle.grammar.specs.Table.{nodes}
use Rattle.grammar.specs.Checks.{Row, fault, sized}
use Rattle.grammar.specs.Nodes.{row_at}
use Rattle.grammar.specs.Sizes.{passed, size_at, onward, scan, sizes}
use Rattle.grammar.specs.Plan.{blank, size_in, coded, Enters, Planned, AllWeighed}
use Rattle.grammar.specs.declared.entry.Entry.{Entry}
use Rattle.grammar.specs.declared.refusal.Refusal.{Refusal}
use Rattle.grammar.specs.Refusals.{accepted}
use Rattle.grammar.specs.declared.refusal.Refused.{Refused}
use Rattle.std.specs.Prelude.{Ok, Err}
use Rattle.planning.proofs.Plans.{plan_none, plan_more, plan_sizes}
use Rattle.grammar.proofs.Checked.{row_fit}
use Rattle.grammar.proofs.Faults.{stays}

-- ---- a row's outcome, from the code's word for it
coded_of : (r : Row) {w : ℕ} → coded r ≡ Ok w → (s : Size) × (r ≡ sized s) × (w ≡ code_of s)
unfolding coded
coded_of (fault f) e = let z : ◌≡◌ {A = ℕ} 0 1 = cc in absurd (omega arith)
coded_of (sized s) e = (s, refl, cc)

coded_fault : (r : Row) {f : Refusal} → coded r ≡ Err f → r ≡ fault f
unfolding coded
coded_fault (fault f) e = cc
coded_fault (sized s) e = let z : ◌≡◌ {A = ℕ} 0 1 = cc in absurd (omega arith)

-- ---- the loop
pub record Weighing (t p : List ℕ) (old : List Entry) (n : ℕ) (plan : List Entry) : Type 0 where
  pub le : n ≤ nodes t
  pub same : length plan ≡ length old
  pub zs : List Size
  pub is : scan t p n ≡ passed zs
  pub plans : Planned t zs n plan

pub weighing_none : {t p : List ℕ} {plan : List Entry} → plan ≡ replicate (length plan) blank → nodes t ≤ length plan → Weighing t p plan 0 plan
unfolding scan
weighing_none {t} {p} {plan} e l = record { le = zero-le; same = refl; zs = []; is = refl; plans = plan_none t plan e l }

module _ {t p : List ℕ} {old plan : List Entry} {n : ℕ} (c : Weighing t p old n plan) (l : n < nodes t) where
  here : coded (row_at t p (size_in plan) n) ≡ coded (row_at t p (size_at c.zs) n)
  here = ap (λ (z : ℕ → Size). coded (row_at t p z n)) (plan_sizes c.plans)

  turn : (s : Size) → row_at t p (size_at c.zs) n ≡ sized s → {x : Entry} → Enters t n x → x.size ≡ code_of s → Weighing t p old (n + 1) (set plan n x)
  unfolding scan onward
  turn s r words q =
      let m = row_fit t p (size_at c.zs) n r c.plans.fit in
      record {
        le = omega arith;
        same = simp length-set c.same;
        zs = c.zs ++ (s ∷ []);
        is = rw (add-one, c.is, r);
        plans = plan_more c.plans l s m words q;
      }

  pub weighing_more : {x : Entry} → Enters t n x × (coded (row_at t p (size_in plan) n) ≡ Ok x.size) → Weighing t p old (n + 1) (set plan n x)
  weighing_more f = let (s, r, q) = coded_of (row_at t p (size_at c.zs) n) (sym here ∙ f.1) in turn s r f.0 q

  pub weighing_fault : {x : Refused} {last : List Entry} → (coded (row_at t p (size_in plan) n) ≡ Err x.refusal) × (x.node ≡ n) → AllWeighed t p last (Err x)
  unfolding scan onward
  weighing_fault f =
      let r = coded_fault (row_at t p (size_at c.zs) n) (sym here ∙ f.0) in
      record { is = rw f.1 (stays t p (nodes t) (suc n) l (rw (c.is, r))) }

pub weighing_end : {t p : List ℕ} {old plan : List Entry} {n : ℕ} → Weighing t p old n plan → nodes t ≤ n → AllWeighed t p plan accepted
unfolding sizes
weighing_end {t} {p} {old} {plan} {n} c l =
    let e : n ≡ nodes t = omega (arith, c.le) in
    let s : scan t p (nodes t) ≡ passed c.zs = rw e at c.is in
    record { is = rw s (refl, rw e at c.plans) }
