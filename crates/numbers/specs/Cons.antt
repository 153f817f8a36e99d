-- cons, sizes i and j (01, and 000, figure 5).
--   split i j n     the part numbers of number n
--   join i j x y    the number whose part numbers are x and y
-- Assumes nothing.
use Rattle.std.specs.Prelude.{ℕ, ◌+◌, ◌*◌, ◌-◌, ◌/◌, ◌%◌, ltb}
use Rattle.numbers.specs.Pick.{pick}
use Rattle.numbers.specs.Size.{Size, finite, endless}
use Rattle.numbers.specs.Root.{root}
use Rattle.numbers.specs.declared.cons.Pair.{Pair}

abbrev pub pair : ℕ → ℕ → Pair
pair x y = record { first = x; second = y }

-- "r the whole square root of n, d = n - r*r; if d < r the pair is (d, r), else (r, d-r)"
abbrev pub edge : ℕ → ℕ → Pair
edge r d = pick (ltb d r) (pair d r) (pair r (d - r))

-- "Both endless: [the above]. Only i finite: (n mod i, n div i). Only j finite: (n div j, n mod j).
-- Both finite: as only i finite if i < j, otherwise as only j finite."
unfoldable pub split : Size → Size → ℕ → Pair
split endless endless n = edge (root n) (n - root n * root n)
split (finite i) endless n = pair (n % i) (n / i)
split endless (finite j) n = pair (n / j) (n % j)
split (finite i) (finite j) n = pick (ltb i j) (pair (n % i) (n / i)) (pair (n / j) (n % j))

unfoldable pub join : Size → Size → ℕ → ℕ → ℕ
join endless endless x y = pick (ltb x y) (y * y + x) (x * x + x + y)
join (finite i) endless x y = y * i + x
join endless (finite j) x y = x * j + y
join (finite i) (finite j) x y = pick (ltb i j) (y * i + x) (x * j + y)
