-- The whole t-th root of a number.
--   RootOf t n r   r is the whole t-th root of n
--   root_of t n     the root, computed: twice the root of n / 2^t, or one more
-- `proofs/power/Powers` has the theorem that root_of t n is the only RootOf t n.
-- Assumes nothing.
use Rattle.std.specs.Prelude.{true, false, ℕ, zero, suc, ◌+◌, ◌*◌, ◌/◌, ◌^◌, ◌≤◌, ◌<◌, leb, eqb}
use Rattle.numbers.specs.Pick.{pick}

pub record RootOf (t n r : ℕ) : Type 0 where
  pub within : r ^ t ≤ n
  pub most : n < (r + 1) ^ t

-- r or r + 1, the larger whose power is within n
abbrev pub raised : ℕ → ℕ → ℕ → ℕ
raised t n r = pick (leb ((r + 1) ^ t) n) (r + 1) r

-- with at most f divisions; n are always enough
unfoldable pub root_by : ℕ → ℕ → ℕ → ℕ
root_by zero t n = 0
root_by (suc f) t n = elim (eqb n 0) [ true ↦ 0 | false ↦ raised t n (2 * root_by f t (n / 2 ^ t)) ]

unfoldable pub root_of : ℕ → ℕ → ℕ
root_of t n = root_by n t n
