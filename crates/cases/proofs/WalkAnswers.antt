-- Towards the theorems of `BothSides`: what the calls' answers say of the walks.
--   reads_is, front_number, found_number    what `read` answers; an answer with a number
--   writes_is, writes_done    what `write` answers where the number may be asked for; an answer with a count
-- Assumes nothing.
use mathlib.Core.Path.{◌≡◌, refl, ap}
use mathlib.Core.List.{List, [], ◌∷◌, map}
use Prim.Native.Nat.{ℕ, ◌^◌, ◌≤◌, ◌<◌}
use native.Mathlib.Omega.{arith}
use lib.Dec.{ltb}
use lib.ListN.{length}
use borrow.Author.Tests.{lt-ltb, ltb-true}
use Rattle.numbers.proofs.Tests.{pick_by}
use Rattle.grammar.specs.Table.{nodes}
use Rattle.grammar.specs.Verdict.{verdict}
use Rattle.grammar.specs.declared.refusal.Refusal.TheVariants.{NotACase}
use Rattle.std.specs.Prelude.{Ok, Err}
use Rattle.grammar.specs.Refusals.{accepted, refused as refuses}
use Rattle.grammar.specs.Sizes.{rules_of}
use Rattle.walk.specs.Walk.{cell, walk, depth}
use Rattle.walk.specs.Run.{Read, read, wrong}
use Rattle.checked.specs.Fits.{Asked, room_for, Fit, fitted}
use Rattle.checked.proofs.Fitted.{Counts, fitted_is, fitted_cells}
use Rattle.checked.specs.Item.{Front, number, refused, front_of, whole_of, whole}
use Rattle.checked.specs.Opening.{opening}
use Rattle.checked.proofs.Opens.{judged_past, opens}
use Rattle.cases.specs.Read.{found, reads}
use Rattle.cases.specs.Write.{wrote, writes}

-- ---- an answer with a number, an answer with a count
pub front_number : (w : Read) {n : ℕ} {rest : List ℕ} → front_of w ≡ number n rest → (q : ℕ) × (w ≡ read n q rest) × (n < 2 ^ 62)
unfolding front_of
front_number (read m q ds) {n} {rest} e =
    pick_by (λ (f : Front). f ≡ number n rest → (q' : ℕ) × (read m q ds ≡ read n q' rest) × (n < 2 ^ 62)) (ltb m (2 ^ 62))
    (λ u v. let s : m ≡ n = cc in let s' : ds ≡ rest = cc in (q, rw (s, s'), omega (arith, ltb-true m (2 ^ 62) u)))
    (λ u v. let z : ◌≡◌ {A = ℕ} 0 1 = cc in absurd (omega arith)) e
front_number (wrong r) e = let z : ◌≡◌ {A = ℕ} 0 1 = cc in absurd (omega arith)

pub found_number : (w : Read) (n : ℕ) → found (whole_of w) ≡ Ok n → (q : ℕ) × (w ≡ read n q []) × (n < 2 ^ 62)
unfolding whole_of front_of
found_number (read m q []) n e = by (front_of (read m q [])) refl e
  where
    by : (f : Front) → front_of (read m q []) ≡ f → found f ≡ Ok n → (q' : ℕ) × (read m q [] ≡ read n q' []) × (n < 2 ^ 62)
    by (number k rest) u v = let s : k ≡ n = cc in let (q', w, l) = front_number (read m q []) u in (q', (cc), omega arith)
    by (refused r) u v = let z : ◌≡◌ {A = ℕ} 0 1 = cc in absurd (omega arith)
found_number (read m q (c ∷ cs)) n e = let z : ◌≡◌ {A = ℕ} 0 1 = cc in absurd (omega arith)
found_number (wrong r) n e = let z : ◌≡◌ {A = ℕ} 0 1 = cc in absurd (omega arith)

pub number_found : (w : Read) (n q : ℕ) → w ≡ read n q [] → n < 2 ^ 62 → found (whole_of w) ≡ Ok n
unfolding whole_of front_of
number_found w n q e s = rw (e, lt-ltb n (2 ^ 62) s)

pub left_over : (w : Read) {n q c : ℕ} {cs : List ℕ} → w ≡ read n q (c ∷ cs) → found (whole_of w) ≡ refuses NotACase 0
unfolding whole_of
left_over w e = rw e

pub wrote_done : (f : Fit) (k : ℕ) → wrote f ≡ Ok k → f ≡ Ok k
wrote_done (Ok m) k e = let s : m ≡ k = cc in ap Ok s
wrote_done (Err r) k e = let z : ◌≡◌ {A = ℕ} 0 1 = cc in absurd (omega arith)

module _ (t p : List ℕ) (a : verdict t p ≡ accepted) (i : ℕ) (l : i < nodes t) where
  pub reads_is : (cs : List ℕ) → reads t p i cs ≡ found (whole (rules_of t p) i cs)
  unfolding reads
  reads_is cs = rw (opens t p a i l)

  -- the cells are few enough, so `write` is done
  pub writes_is : (n room : ℕ) (cs : List ℕ) → Asked (rules_of t p i).size n → walk (rules_of t p) depth 0 i n ≡ map cell cs → length cs ≤ room_for room
      → writes t p i n room ≡ Ok (length cs)
  unfolding writes
  writes_is n room cs q e k = rw (opens t p a i l, fitted_is (rules_of t p) i n room cs q e k)

-- `write` is done, so the number may be asked for, and its walk meets cells only
pub writes_done : (t p : List ℕ) (i n room k : ℕ) → writes t p i n room ≡ Ok k → Counts (rules_of t p) i n room k
unfolding writes
writes_done t p i n room k e =
    let (_, f) = judged_past Err (opening t p i) (λ r q. let z : ◌≡◌ {A = ℕ} 0 1 = cc in omega arith) e in
    fitted_cells (rules_of t p) i n room k (wrote_done (fitted (rules_of t p) i n room) k f)
