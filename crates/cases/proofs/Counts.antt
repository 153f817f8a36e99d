-- How many numbers below a bound pass a test.
--   many         the count
--   many_le      a test that another passes too counts no more
--   many_less    and fewer, where one number passes only the other
-- Assumes nothing.
use mathlib.Core.Path.{◌≡◌, refl}
use mathlib.Core.Bool.{Bool, true, false, false≢true}
use mathlib.Core.Logic.{⊎_elim}
use Prim.Native.Nat.{ℕ, zero, suc, ◌+◌, ◌≤◌, ◌<◌}
use native.Mathlib.Nat.{not-suc-le-zero, le_refl}
use native.Mathlib.Omega.{arith}
use Rattle.numbers.specs.Pick.{pick}
use Rattle.lists.proofs.Order.{same?}

unfoldable pub many : (ℕ → Bool) → ℕ → ℕ
many f zero = 0
many f (suc n) = many f n + pick (f n) 1 0

module _ (f g : ℕ → Bool) (also : (k : ℕ) → f k ≡ true → g k ≡ true) where
  one_le : (x y : Bool) → (x ≡ true → y ≡ true) → pick {A = ℕ} x 1 0 ≤ pick {A = ℕ} y 1 0
  one_le true true h = omega arith
  one_le true false h = absurd (false≢true (h refl))
  one_le false true h = omega arith
  one_le false false h = omega arith

  pub many_le : (n : ℕ) → many f n ≤ many g n
  unfolding many
  many_le zero = le_refl 0
  many_le (suc n) = omega (arith, many_le n, one_le (f n) (g n) (also n))

  module _ (j : ℕ) (out : f j ≡ false) (in_g : g j ≡ true) where
    here : many f (suc j) < many g (suc j)
    unfolding many
    here = rw (out, in_g) (omega (arith, many_le j))

    pub many_less : (n : ℕ) → j < n → many f n < many g n
    unfolding many
    many_less zero l = absurd (not-suc-le-zero l)
    many_less (suc n) l = ⊎_elim (λ (e : j ≡ n). rw e at here) (λ ne. omega (arith, many_less n (omega arith), one_le (f n) (g n) (also n))) (same? j n)
