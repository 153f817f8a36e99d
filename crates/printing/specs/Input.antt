-- What an input asks for. 01: "at most 65,536 bytes of lines ended by LF: table words, pool words (this line alone may be empty), start node, then one
-- number a line"
--   Input          the table, the pool, the start node and the numbers; or it is unreadable
--   table_line, pool_line   the first line, and the second, which stands at a place
--   one_at          the number that is alone on the line at a place, and the place after the line
--   numbers_from    the numbers from a place to the text's end, one a line
--   input_of        what a text asks for
--   readable       whether there are such numbers
-- Assumes nothing.
use Rattle.std.specs.Prelude.{Bool, true, false, cond, List, [], ◌∷◌, ℕ, zero, suc, leb, length, Option, Some, None, option_map}
use Rattle.texts.specs.Line.{Reading, numbers, unreadable, line_at, within}
use Rattle.printing.specs.declared.input.One.{One}

pub data Input : Type 0 where
  asks : (table pool : List ℕ) (start : ℕ) (ns : List ℕ) → Input
  unclear : Input

-- ---- the lines
-- "at most 65,536 bytes"; "Table and pool lines hold at most 768 and 4,096 numbers"
abbrev pub most_bytes : ℕ
most_bytes = 65536

abbrev pub table_words : ℕ
table_words = 768

abbrev pub pool_words : ℕ
pool_words = 4096

-- "this line alone may be empty" is said of the pool's
abbrev pub not_empty : Reading → Reading
not_empty (numbers [] next) = unreadable
not_empty (numbers (n ∷ ns) next) = numbers (n ∷ ns) next
not_empty unreadable = unreadable

unfoldable pub table_line : List ℕ → Reading
table_line text = cond (leb (length text) most_bytes) (not_empty (within table_words (line_at text 0))) unreadable

unfoldable pub pool_line : List ℕ → ℕ → Reading
pool_line text at = within pool_words (line_at text at)

abbrev pub alone : Reading → Option One
alone (numbers [] next) = None
alone (numbers (n ∷ []) next) = Some (record { number = n; next = next })
alone (numbers (n ∷ m ∷ ns) next) = None
alone unreadable = None

unfoldable pub one_at : List ℕ → ℕ → Option One
one_at text at = alone (line_at text at)

abbrev pub further : Option One → (ℕ → Option (List ℕ)) → Option (List ℕ)
further (Some one) rest = option_map (one.number ∷◌) (rest one.next)
further None rest = None

-- with less than f lines; a text has no more lines than bytes
unfoldable pub numbers_by : ℕ → List ℕ → ℕ → Option (List ℕ)
numbers_by zero text at = None
numbers_by (suc f) text at = cond (leb (length text) at) (Some []) (further (one_at text at) (numbers_by f text))

unfoldable pub numbers_from : List ℕ → ℕ → Option (List ℕ)
numbers_from text at = numbers_by (suc (length text)) text at

-- ---- the whole text: each line stands behind the one before
abbrev pub with_numbers : List ℕ → List ℕ → ℕ → Option (List ℕ) → Input
with_numbers t p i (Some ns) = asks t p i ns
with_numbers t p i None = unclear

abbrev pub with_start : List ℕ → List ℕ → List ℕ → Option One → Input
with_start text t p (Some one) = with_numbers t p one.number (numbers_from text one.next)
with_start text t p None = unclear

abbrev pub with_pool : List ℕ → List ℕ → Reading → Input
with_pool text t (numbers p at) = with_start text t p (one_at text at)
with_pool text t unreadable = unclear

abbrev pub with_table : List ℕ → Reading → Input
with_table text (numbers t at) = with_pool text t (pool_line text at)
with_table text unreadable = unclear

unfoldable pub input_of : List ℕ → Input
input_of text = with_table text (table_line text)

-- ---- whether each line from a place on is a number
abbrev pub readable : Option (List ℕ) → Bool
readable (Some ns) = true
readable None = false
