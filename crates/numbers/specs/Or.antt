-- or, sizes s and t (01, 000 and 001).
--   split s t n    the part that number n is of, and its number there
--   join s t p     the number of a part's number
--   PartBelow      a part's number is below that part's size
-- Assumes nothing.
use Rattle.std.specs.Prelude.{ℕ, ◌+◌, ◌*◌, ◌-◌, ◌/◌, ◌%◌, eqb, ltb, leb}
use Rattle.numbers.specs.Pick.{pick}
use Rattle.numbers.specs.Size.{Size, finite, endless, Below}
use Rattle.numbers.specs.declared.or.Part.{Part}
use Rattle.numbers.specs.declared.or.Part.TheVariants.{First, Second}

-- "even n is the first part at n/2, odd n the second at (n-1)/2"
abbrev pub alternate : ℕ → Part
alternate n = pick (eqb (n % 2) 0) (First (n / 2)) (Second ((n - 1) / 2))

-- the first part is used up first: "for n < 2s, [they alternate]; from 2s on, the second at n-s"
abbrev pub then_second : ℕ → ℕ → Part
then_second s n = pick (ltb n (2 * s)) (alternate n) (Second (n - s))

-- the second part is used up first: "the same for n < 2t, then the first at n-t"
abbrev pub then_first : ℕ → ℕ → Part
then_first t n = pick (ltb n (2 * t)) (alternate n) (First (n - t))

-- "If s <= t: [the first is used up first]. If t < s: [the second is]. Two endless parts always alternate."
unfoldable pub split : Size → Size → ℕ → Part
split (finite s) (finite t) n = pick (leb s t) (then_second s n) (then_first t n)
split (finite s) endless n = then_second s n
split endless (finite t) n = then_first t n
split endless endless n = alternate n

-- part b, 0 or 1, alternates while the other, of size u, lasts, and goes on behind it after that
abbrev pub turn : ℕ → Size → ℕ → ℕ
turn b (finite u) m = pick (ltb m u) (2 * m + b) (m + u)
turn b endless m = 2 * m + b

unfoldable pub join : Size → Size → Part → ℕ
join s t (First m) = turn 0 t m
join s t (Second m) = turn 1 s m

abbrev pub PartBelow : Size → Size → Part → Type 0
PartBelow s t (First m) = Below m s
PartBelow s t (Second m) = Below m t

-- the number at a part, whichever it is
abbrev pub in_part : Part → ℕ
in_part (First m) = m
in_part (Second m) = m
