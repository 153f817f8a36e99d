-- Newton's step for a square root, r ↦ (r + n / r) / 2.
--   step_above_lem   from any guess it gives the root or more
-- Assumes nothing.
use mathlib.Core.Path.{◌≡◌, refl}
use mathlib.Core.Bool.{Bool, true, false}
use Prim.Native.Nat.{ℕ, ◌+◌, ◌*◌, ◌-◌, ◌/◌, ◌≤◌, ◌<◌}
use native.Mathlib.Nat.{lt-div-mul-add, mul-le-mul}
use native.Mathlib.Omega.{arith}
use lib.Dec.{leb}
use borrow.Author.Tests.{leb-true, leb-false}

-- four times a product is at most the square of the sum
four_apart : (a b d : ℕ) → b ≡ a + d → 4 * (a * b) ≤ (a + b) * (a + b)
four_apart a b d e = rw e (omega arith)

four : (a b : ℕ) → 4 * (a * b) ≤ (a + b) * (a + b)
four a b = by (leb a b) refl
  where
    by : (q : Bool) → leb a b ≡ q → 4 * (a * b) ≤ (a + b) * (a + b)
    by true e = four_apart a b (b - a) (omega (arith, leb-true a b e))
    by false e = omega (arith, four_apart b a (a - b) (omega (arith, leb-false a b e)))

module _ (n r : ℕ) where
  pub step_above_lem : 0 < r → n < ((r + n / r) / 2 + 1) * ((r + n / r) / 2 + 1)
  step_above_lem p =
      let m = (r + n / r) / 2 + 1 in
      let sum : (n / r + 1) + r ≤ 2 * m = omega arith in
      omega (arith, lt-div-mul-add {a = n} {b = r} p, four (n / r + 1) r, mul-le-mul sum sum)
