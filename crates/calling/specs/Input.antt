-- What a whole input prints, line by line.
--   line_size, after, line_of      the bytes of a first line with its LF, the place after the line at a place, and that line
--   table_at, table_text           what the two lines after `table` make known, and what they print
--   said_at, next_at, next_known    what the line at a place prints, the place of the next, and what is known there
--   printed_by, printed           what the lines from a place on print, and a whole input
-- Assumes nothing.
use Rattle.std.specs.Prelude.{Bool, cond, List, [], ◌∷◌, ◌++◌, ℕ, zero, suc, ◌+◌, eqb, leb, length, take, drop}
use Rattle.texts.specs.Ascii.{bytes, lf}
use Rattle.texts.specs.Line.{Reading, numbers, unreadable, line_at, within}
use Rattle.texts.specs.Said.{unreadable_text}
use Rattle.asking.specs.Same.{same}
use Rattle.calling.specs.Line.{readable}
use Rattle.calling.specs.Calls.{Known, about, nothing, line_text}

unfoldable pub line_size : List ℕ → ℕ
line_size [] = 0
line_size (b ∷ bs) = cond (eqb b lf) 1 (suc (line_size bs))

unfoldable pub after : List ℕ → ℕ → ℕ
after text at = at + line_size (drop at text)

unfoldable pub line_of : List ℕ → ℕ → List ℕ
line_of text at = take (line_size (drop at text)) (drop at text)

-- ---- "the next two lines are the table's words and the pool's words; either may be empty. Up to 1,024 table words and 5,000 pool words"
abbrev pub most_table_words : ℕ
most_table_words = 1024

abbrev pub most_pool_words : ℕ
most_pool_words = 5000

abbrev pub both_read : Reading → Reading → Known
both_read (numbers t next) (numbers p end) = about t p
both_read (numbers t next) unreadable = nothing
both_read unreadable pool = nothing

unfoldable pub table_at : List ℕ → ℕ → Known
table_at text at = both_read (within most_table_words (line_at text at)) (within most_pool_words (line_at text (after text at)))

-- "A `table` whose two lines are unreadable prints `unreadable`"
abbrev pub table_text : Known → List ℕ
table_text (about t p) = []
table_text nothing = unreadable_text

-- ---- the line at a place
abbrev pub is_table : List ℕ → ℕ → Bool
is_table text at = same (line_of text at) (bytes "table\n")

unfoldable pub said_at : List ℕ → ℕ → Known → List ℕ
said_at text at known = cond (is_table text at) (table_text (table_at text (after text at))) (line_text known (line_of text at))

unfoldable pub next_at : List ℕ → ℕ → ℕ
next_at text at = cond (is_table text at) (after text (after text (after text at))) (after text at)

unfoldable pub next_known : List ℕ → ℕ → Known → Known
next_known text at known = cond (is_table text at) (table_at text (after text at)) known

-- ---- with less than f lines; a text has no more lines than bytes
unfoldable pub printed_by : ℕ → List ℕ → ℕ → Known → List ℕ
printed_by zero text at known = []
printed_by (suc f) text at known = cond (leb (length text) at) [] (said_at text at known ++ printed_by f text (next_at text at) (next_known text at known))

-- "Input longer than the limit, or whose last line has no LF, prints only `unreadable`."
unfoldable pub printed : List ℕ → List ℕ
printed text = cond (readable text) (printed_by (suc (length text)) text 0 nothing) unreadable_text
