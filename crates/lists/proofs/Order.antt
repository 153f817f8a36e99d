-- Numbers beside one another.
--   same?      one is the other, or it is not
--   le_or_lt   it is at most the other, or above it
-- Assumes nothing.
use mathlib.Core.Path.{◌≡◌}
use mathlib.Core.Logic.{◌⊎◌, inl, inr, ⊎_elim}
use Prim.Native.Nat.{ℕ, zero, suc, ◌≤◌, ◌<◌, zero-le, suc-le-suc}
use native.Mathlib.Decide.{ℕ_discrete}

pub same? : (k x : ℕ) → (k ≡ x) ⊎ (k ≡ x → ⊥)
same? k x = elim (ℕ_discrete k x) [ yes e ↦ inl e | no f ↦ inr f ]

pub le_or_lt : (k n : ℕ) → (k ≤ n) ⊎ (n < k)
le_or_lt zero n = inl zero-le
le_or_lt (suc k) zero = inr (suc-le-suc zero-le)
le_or_lt (suc k) (suc n) = ⊎_elim (λ l. inl (suc-le-suc l)) (λ l. inr (suc-le-suc l)) (le_or_lt k n)
