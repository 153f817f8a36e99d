-- What `write-row` prints and leaves in the lent buffer, as calls.md has it.
--   write_row_text    of numbers, with a buffer of so many words
--   write_row_leaves  what a lent buffer holds then
--   write_row_call    of the rest of its line
-- Assumes nothing.
use Rattle.std.specs.Prelude.{List, ◌++◌, ℕ, drop}
use Rattle.grammar.specs.Sizes.{rules_of}
use Rattle.rows.specs.Row.{leaves}
use Rattle.rows.specs.WriteRow.{row_of as cells_of_row, writes_row}
use Rattle.asking.specs.Fields.{fields_of, row_of, with_row}
use Rattle.asking.specs.Buffer.{start_words}
use Rattle.row_calls.specs.Row.{row_text}

unfoldable pub write_row_text : List ℕ → List ℕ → ℕ → ℕ → List ℕ → List ℕ
write_row_text t p i room ns = row_text (cells_of_row (rules_of t p) i ns) (writes_row t p i room ns)

abbrev pub write_row_leaves : List ℕ → List ℕ → ℕ → ℕ → List ℕ → List ℕ → List ℕ
write_row_leaves t p i room ns old = leaves (writes_row t p i room ns) (cells_of_row (rules_of t p) i ns) (start_words 0 room) ++ drop room old

unfoldable pub write_row_call : List ℕ → List ℕ → List ℕ → List ℕ
write_row_call t p rest = with_row (write_row_text t p) (row_of (fields_of rest))
