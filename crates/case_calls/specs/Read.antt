-- What `read` prints, as calls.md has it.
--   found_text, read_text    of an answer, and of cells
--   read_call               of the rest of its line
-- Assumes nothing.
use Rattle.std.specs.Prelude.{List, ℕ, Ok, Err}
use Rattle.cases.specs.Read.{Found, reads}
use Rattle.texts.specs.Said.{refused_line}
use Rattle.asking.specs.Fields.{fields_of, cells_of, with_cells}
use Rattle.asking.specs.Texts.{number_line}

unfoldable pub found_text : Found → List ℕ
found_text (Ok n) = number_line n
found_text (Err e) = refused_line e.refusal e.node

unfoldable pub read_text : List ℕ → List ℕ → ℕ → List ℕ → List ℕ
read_text t p i cs = found_text (reads t p i cs)

unfoldable pub read_call : List ℕ → List ℕ → List ℕ → List ℕ
read_call t p rest = with_cells (read_text t p) (cells_of (fields_of rest))
