-- Sizes. 01: "Sizes are a whole number up to 2^62, or endless."
--   Size               finite s, or endless
--   Below n s          n is one of the numbers of a node of size s
--   NotZero s          there is such a number
--   plus, times, less  "Endless plus, or times, anything is endless; endless less one is endless."
--   size_of, code_of     a size in one machine word
--   measured           a size's word, or none past 2^62
-- Assumes nothing.
use Rattle.std.specs.Prelude.{Bool, true, ℕ, ◌+◌, ◌*◌, ◌-◌, ◌^◌, ◌<◌, ltb, leb, Option, Some, None}
use Rattle.numbers.specs.Pick.{pick}

pub data Size : Type 0 where
  finite : ℕ → Size
  endless : Size

abbrev pub Below : ℕ → Size → Type 0
Below n (finite s) = n < s
Below n endless = Unit {0}

-- the same as a test
abbrev pub below : ℕ → Size → Bool
below n (finite s) = ltb n s
below n endless = true

-- a size that is not 0
abbrev pub NotZero : Size → Type 0
NotZero (finite s) = 0 < s
NotZero endless = Unit {0}

unfoldable pub plus : Size → Size → Size
plus (finite s) (finite t) = finite (s + t)
plus (finite s) endless = endless
plus endless t = endless

unfoldable pub times : Size → Size → Size
times (finite s) (finite t) = finite (s * t)
times (finite s) endless = endless
times endless t = endless

unfoldable pub less : Size → Size
less (finite s) = finite (s - 1)
less endless = endless

-- ---- in one word, with endless above every finite size
abbrev pub code_of : Size → ℕ
code_of (finite s) = s
code_of endless = 2 ^ 63

unfoldable pub size_of : ℕ → Size
size_of w = pick (ltb w (2 ^ 63)) (finite w) endless

-- "(8) is given when a finite size passes 2^62"
unfoldable pub measured : Size → Option ℕ
measured (finite s) = pick (leb s (2 ^ 62)) (Some s) None
measured endless = Some (code_of endless)
