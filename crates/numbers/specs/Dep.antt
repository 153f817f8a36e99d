-- dep (01 and 004). The seconds are all finite, or all endless.
--   Seconds         the seconds' sizes, in the order of the first part's numbers
--   size            "sum of the seconds"
--   firsts, second  the size of the first part; of the second that goes with number x of the first
--   split, join     between a number and the numbers of the first part and of its second
-- Assumes nothing.
use Rattle.std.specs.Prelude.{List, [], ◌∷◌, ℕ, ◌+◌, ◌*◌, ◌-◌, ◌/◌, ◌%◌, ltb, length, get_or, take}
use Rattle.numbers.specs.Pick.{pick}
use Rattle.numbers.specs.Size.{Size, finite, endless}
use Rattle.numbers.specs.Cons.{pair}
use Rattle.numbers.specs.declared.cons.Pair.{Pair}

-- finite ones, with their sizes; or m endless ones
pub data Seconds : Type 0 where
  finites : List ℕ → Seconds
  endlesses : ℕ → Seconds

unfoldable pub total : List ℕ → ℕ
total [] = 0
total (t ∷ ts) = t + total ts

unfoldable pub size : Seconds → Size
size (finites ts) = finite (total ts)
size (endlesses m) = endless

abbrev pub firsts : Seconds → ℕ
firsts (finites ts) = length ts
firsts (endlesses m) = m

abbrev pub second : Seconds → ℕ → Size
second (finites ts) x = finite (get_or ts x 0)
second (endlesses m) x = endless

abbrev pub after_first : Pair → Pair
after_first p = pair (p.first + 1) p.second

-- "all pairs of first 0, then of first 1, and so on"
unfoldable pub in_turn : List ℕ → ℕ → Pair
in_turn [] n = pair 0 n
in_turn (t ∷ ts) n = pick (ltb n t) (pair 0 n) (after_first (in_turn ts (n - t)))

-- "Seconds finite: [in turn]. Seconds endless: first n mod m, second n div m."
unfoldable pub split : Seconds → ℕ → Pair
split (finites ts) n = in_turn ts n
split (endlesses m) n = pair (n % m) (n / m)

unfoldable pub join : Seconds → ℕ → ℕ → ℕ
join (finites ts) x y = total (take x ts) + y
join (endlesses m) x y = y * m + x
