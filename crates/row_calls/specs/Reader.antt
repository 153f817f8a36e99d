-- What a reader that is asked again and again prints, as calls.md has it.
--   onward      of one ask, and of those behind it
--   asks_text    of a row: "asks again and again"
--   reader_call  of the rest of its line
-- Assumes nothing.
use Rattle.std.specs.Prelude.{List, [], ◌++◌, ℕ, zero, suc, length, Some, None, Ok, Err}
use Rattle.rows.specs.Reader.{Reply, next_of, after_of}
use Rattle.texts.specs.Ascii.{bytes}
use Rattle.texts.specs.Said.{refused_line}
use Rattle.asking.specs.Fields.{fields_of, cells_of, with_cells}
use Rattle.asking.specs.Texts.{item_text}

-- "`number N, C cells` for each item, and `end` at the row's end"; "`refused R at K`, and it stops"
abbrev pub onward : Reply → List ℕ → List ℕ
onward (Ok (Some n)) rest = item_text n.number n.cells ++ rest
onward (Ok None) rest = bytes "end\n"
onward (Err e) rest = refused_line e.refusal e.node

-- asked at most f times; a row has no more items than cells, and the end is an ask too
unfoldable pub asks_by : ℕ → List ℕ → List ℕ → ℕ → List ℕ → ℕ → List ℕ
asks_by zero t p i row at = []
asks_by (suc f) t p i row at = onward (next_of t p i row at) (asks_by f t p i row (after_of at (next_of t p i row at)))

unfoldable pub asks_text : List ℕ → List ℕ → ℕ → List ℕ → List ℕ
asks_text t p i row = asks_by (suc (length row)) t p i row 0

unfoldable pub reader_call : List ℕ → List ℕ → List ℕ → List ℕ
reader_call t p rest = with_cells (asks_text t p) (cells_of (fields_of rest))
