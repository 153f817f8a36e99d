-- The whole square root of a number.
--   Root n r   r is the whole square root of n
--   Above n r  r is the root of n or more, and a word's root
--   root n     the root, computed: twice the root of a quarter, or one more
-- `proofs/root/Laws` has the theorem that root n is the only Root of n.
-- Assumes nothing.
use Rattle.std.specs.Prelude.{true, false, ℕ, zero, suc, ◌+◌, ◌*◌, ◌/◌, ◌^◌, ◌≤◌, ◌<◌, leb, eqb}
use Rattle.numbers.specs.Pick.{pick}

pub record Root (n r : ℕ) : Type 0 where
  pub within : r * r ≤ n
  pub most : n < (r + 1) * (r + 1)

pub record Above (n r : ℕ) : Type 0 where
  pub above : n < (r + 1) * (r + 1)
  pub word : r < 2 ^ 32

-- r or r + 1, the larger whose square is within n
abbrev pub raised : ℕ → ℕ → ℕ
raised n r = pick (leb ((r + 1) * (r + 1)) n) (r + 1) r

-- with at most f quarterings; n are always enough
unfoldable pub root_by : ℕ → ℕ → ℕ
root_by zero n = 0
root_by (suc f) n = elim (eqb n 0) [ true ↦ 0 | false ↦ raised n (2 * root_by f (n / 4)) ]

unfoldable pub root : ℕ → ℕ
root n = root_by n n
