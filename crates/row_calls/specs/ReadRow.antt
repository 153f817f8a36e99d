-- What `read-row` prints and leaves in the lent buffer, as calls.md has it.
--   read_row_text    of cells, with a buffer of so many words
--   read_row_leaves  what a lent buffer holds then
--   read_row_call    of the rest of its line
-- Assumes nothing.
use Rattle.std.specs.Prelude.{List, ◌++◌, ℕ, drop}
use Rattle.grammar.specs.Sizes.{rules_of}
use Rattle.rows.specs.Row.{leaves}
use Rattle.rows.specs.ReadRow.{gather, gotten, reads_row}
use Rattle.asking.specs.Fields.{fields_of, row_of, with_row}
use Rattle.asking.specs.Buffer.{start_words}
use Rattle.row_calls.specs.Row.{row_text}

unfoldable pub read_row_text : List ℕ → List ℕ → ℕ → ℕ → List ℕ → List ℕ
read_row_text t p i room cs = row_text (gotten (gather (rules_of t p) i room cs)) (reads_row t p i room cs)

abbrev pub read_row_leaves : List ℕ → List ℕ → ℕ → ℕ → List ℕ → List ℕ → List ℕ
read_row_leaves t p i room cs old = leaves (reads_row t p i room cs) (gotten (gather (rules_of t p) i room cs)) (start_words 0 room) ++ drop room old

unfoldable pub read_row_call : List ℕ → List ℕ → List ℕ → List ℕ
read_row_call t p rest = with_row (read_row_text t p) (row_of (fields_of rest))
