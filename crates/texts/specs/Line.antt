-- A line of numbers: parted by single spaces and ended by LF.
--   ended       the bytes before the first LF, if there is one
--   words       what the spaces of a line part: one word more than spaces
--   number_of    the number that a whole word is, if it is one
--   line_at      the numbers of the line that starts at a place, and the place after its LF
--   line_text    the text of a line of these numbers
--   spaced      the text of numbers, each after a space
--   ReadLine    what reading a line answers, and what it leaves in the words lent for it
-- Assumes nothing.
use Rattle.std.specs.Prelude.{◌≡◌, cond, List, [], ◌∷◌, ◌++◌, ℕ, ◌+◌, eqb, leb, length, drop, Option, Some, None, option_map}
use Rattle.texts.specs.Ascii.{lf, space}
use Rattle.texts.specs.Numeral.{numeral_at}
use Rattle.texts.specs.Decimal.{decimal}
use Rattle.texts.specs.declared.numeral.Numeral.{Numeral}
use Rattle.texts.specs.declared.line.Line.{Line}

-- the numbers of a line and the place after its LF, or no such line
pub data Reading : Type 0 where
  numbers : List ℕ → ℕ → Reading
  unreadable : Reading

unfoldable pub ended : List ℕ → Option (List ℕ)
ended [] = None
ended (b ∷ bs) = cond (eqb b lf) (Some []) (option_map (b ∷◌) (ended bs))

-- the first word with one more byte in front
abbrev pub longer : ℕ → List (List ℕ) → List (List ℕ)
longer b [] = (b ∷ []) ∷ []
longer b (w ∷ ws) = (b ∷ w) ∷ ws

-- two spaces, or a space at either end, part an empty word
unfoldable pub words : List ℕ → List (List ℕ)
words [] = [] ∷ []
words (b ∷ bs) = cond (eqb b space) ([] ∷ words bs) (longer b (words bs))

-- a number that ends where the word ends
abbrev pub whole : ℕ → Option Numeral → Option ℕ
whole size (Some n) = cond (eqb n.end size) (Some n.value) None
whole size None = None

unfoldable pub number_of : List ℕ → Option ℕ
number_of w = whole (length w) (numeral_at w 0)

-- a number and those behind it, if all are there
abbrev pub both : Option ℕ → Option (List ℕ) → Option (List ℕ)
both (Some n) (Some ns) = Some (n ∷ ns)
both (Some n) None = None
both None ns = None

-- each word is a number
unfoldable pub numbers_of : List (List ℕ) → Option (List ℕ)
numbers_of [] = Some []
numbers_of (w ∷ ws) = both (number_of w) (numbers_of ws)

-- an empty line has no numbers; any other has one to each word
abbrev pub line_numbers : List ℕ → Option (List ℕ)
line_numbers [] = Some []
line_numbers (b ∷ bs) = numbers_of (words (b ∷ bs))

abbrev pub up_to : ℕ → Option (List ℕ) → Reading
up_to next (Some ns) = numbers ns next
up_to next None = unreadable

abbrev pub line_by : ℕ → Option (List ℕ) → Reading
line_by at (Some line) = up_to (at + length line + 1) (line_numbers line)
line_by at None = unreadable

unfoldable pub line_at : List ℕ → ℕ → Reading
line_at text at = line_by at (ended (drop at text))

-- more numbers than there is room for are unreadable too
abbrev pub within : ℕ → Reading → Reading
within room (numbers ns next) = cond (leb (length ns) room) (numbers ns next) unreadable
within room unreadable = unreadable

abbrev pub answer : Reading → Option Line
answer (numbers ns next) = Some (record { count = length ns; next = next })
answer unreadable = None

-- the numbers stand at the front, and the rest keeps its words
abbrev pub stored : List ℕ → Reading → List ℕ
stored old (numbers ns next) = ns ++ drop (length ns) old
stored old unreadable = old

pub record ReadLine (text : List ℕ) (at : ℕ) (old last : List ℕ) (r : Option Line) : Type 0 where
  pub answers : r ≡ answer (within (length old) (line_at text at))
  pub leaves : last ≡ stored old (within (length old) (line_at text at))

-- ---- the text that a line of numbers has
unfoldable pub line_text : List ℕ → List ℕ
line_text [] = lf ∷ []
line_text (n ∷ []) = decimal n ++ (lf ∷ [])
line_text (n ∷ m ∷ ns) = decimal n ++ (space ∷ line_text (m ∷ ns))

-- each after a space
unfoldable pub spaced : List ℕ → List ℕ
spaced [] = []
spaced (n ∷ ns) = (space ∷ decimal n) ++ spaced ns

-- ---- for the second pass: a line of so many numbers
abbrev pub HasCount : ℕ → Reading → Type 0
HasCount count (numbers ns next) = length ns ≡ count
HasCount count unreadable = ⊥
