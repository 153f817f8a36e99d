-- except, of a part whose number b is removed.
--   split b n    the part's number of number n
--   join b m     the number of the part's number m, which is not b
-- Assumes nothing.
use Rattle.std.specs.Prelude.{ℕ, ◌+◌, ◌-◌, ltb}
use Rattle.numbers.specs.Pick.{pick}

-- "the part at n if n < b, otherwise at n+1"
unfoldable pub split : ℕ → ℕ → ℕ
split b n = pick (ltb n b) n (n + 1)

unfoldable pub join : ℕ → ℕ → ℕ
join b m = pick (ltb m b) m (m - 1)
