-- The computed lowest node is the lowest node, and there is one only.
--   lowest_of    lowest test n is Lowest P, where the test decides P and P holds of no number from n on
--   lowest_one   two Lowest P are equal
--   lowest_256   where none was found
--   nowhere      where there is none
-- Assumes nothing.
use mathlib.Core.Path.{◌≡◌}
use mathlib.Core.Bool.{Bool}
use mathlib.Core.Logic.{⊎_elim}
use Prim.Native.Nat.{ℕ, zero, suc, ◌≤◌, ◌<◌}
use native.Mathlib.Nat.{le_refl, lt_irrefl, not-suc-le-zero}
use native.Mathlib.Omega.{arith}
use lib.Dec.{ltb}
use borrow.Author.Tests.{ltb-true, ltb-false}
use Rattle.numbers.proofs.Tests.{pick_by}
use Rattle.graph.specs.Paths.{Decides}
use Rattle.graph.specs.Lowest.{Lowest, earlier, lowest}
use Rattle.lists.proofs.Order.{same?, le_or_lt}

record Low (P : ℕ → Type 0) (n m : ℕ) : Type 0 where
  within : m ≤ 256
  found : m < 256 → (m < n) × P m
  before : (k : ℕ) → k < n → k < m → P k → ⊥

low_suc : {P : ℕ → Type 0} {n m : ℕ} {hit : Bool} → Low P n m → n < 256 → Decides (P n) hit → Low P (suc n) (earlier m hit n)
low_suc {P} {n} {m} {hit} l lt d =
    pick_by (Low P (suc n)) (ltb m 256)
    (λ t. let w = l.found (ltb-true m 256 t) in
    record { within = l.within; found = λ h. (omega arith, w.1); before = λ k a b. l.before k (omega arith) b })
    (λ f. let g : 256 ≤ m = ltb-false m 256 f in
    pick_by (Low P (suc n)) hit
    (λ t. record { within = omega arith; found = λ h. (le_refl (suc n), d.yes t); before = λ k a b. l.before k b (omega arith) })
    (λ u. record {
      within = le_refl 256;
      found = λ h. absurd (lt_irrefl 256 h);
      before = λ k a b q. ⊎_elim (λ e. d.no u (rw e at q)) (λ e. l.before k (omega arith) (omega arith) q) (same? k n);
    }))

low : {P : ℕ → Type 0} (test : ℕ → Bool) (n : ℕ) → n ≤ 256 → ((k : ℕ) → k < n → Decides (P k) (test k)) → Low P n (lowest test n)
unfolding lowest
low test zero h d = record { within = le_refl 256; found = λ l. absurd (lt_irrefl 256 l); before = λ k l. absurd (not-suc-le-zero l) }
low test (suc n) h d = low_suc (low test n (omega arith) (λ k l. d k (omega arith))) h (d n (le_refl (suc n)))

pub lowest_of : {P : ℕ → Type 0} (test : ℕ → Bool) (n : ℕ) → n ≤ 256 → ((k : ℕ) → k < n → Decides (P k) (test k)) → ((k : ℕ) → P k → k < n)
    → Lowest P (lowest test n)
lowest_of test n h d in-n =
    let l = low test n h d in
    record {
      within = l.within;
      found = λ m. (l.found m).1;
      before = λ k m q. l.before k (in-n k q) m q;
      none = λ e k q. l.before k (in-n k q) (omega (arith, in-n k q)) q;
    }

pub lowest_one : {P : ℕ → Type 0} {r s : ℕ} → Lowest P r → Lowest P s → r ≡ s
lowest_one {P} {r} {s} l m =
    ⊎_elim (λ a. ⊎_elim (λ b. omega arith) (λ b. absurd (m.before r b (l.found (omega (arith, m.within))))) (le_or_lt s r))
    (λ b. absurd (l.before s b (m.found (omega (arith, l.within)))))
    (le_or_lt r s)

pub lowest_256 : {P : ℕ → Type 0} {r : ℕ} → Lowest P r → 256 ≤ r → Lowest P 256
lowest_256 {P} {r} l h = let e : r ≡ 256 = omega (arith, l.within) in rw e at l

pub nowhere : {P : ℕ → Type 0} → ((k : ℕ) → P k → ⊥) → Lowest P 256
nowhere f = record { within = le_refl 256; found = λ l. absurd (lt_irrefl 256 l); before = λ k l. f k; none = λ e k. f k }
