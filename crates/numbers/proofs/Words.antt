-- A machine word and its square.
--   own_square   a number is at most its square
-- Assumes nothing.
use Prim.Native.Nat.{ℕ, zero, suc, ◌*◌, ◌≤◌}
use native.Mathlib.Omega.{arith}

pub own_square : (r : ℕ) → r ≤ r * r
own_square zero = omega arith
own_square (suc r) = omega arith
