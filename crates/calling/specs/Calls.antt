-- What each line prints, as calls.md has it: "It has no opinion of its own: it lends buffers, calls, and prints what came back."
--   row_calls, calls     of each call with the rest of its line: of those on rows, and of all
--   chosen              of the call that a word names
--   Known, line_text     what the last `table` made known, and what a whole line prints
-- Assumes nothing.
use Rattle.std.specs.Prelude.{cond, List, [], ◌∷◌, ℕ, take, drop}
use Rattle.texts.specs.Ascii.{bytes}
use Rattle.texts.specs.Said.{unreadable_text}
use Rattle.asking.specs.Same.{same}
use Rattle.case_calls.specs.Check.{check_call}
use Rattle.case_calls.specs.Write.{write_call}
use Rattle.case_calls.specs.Read.{read_call}
use Rattle.row_calls.specs.WriteRow.{write_row_call}
use Rattle.row_calls.specs.ReadRow.{read_row_call}
use Rattle.row_calls.specs.Reader.{reader_call}
use Rattle.calling.specs.Line.{word_size}

-- a call's word, and what it prints
pub data Entry : Type 0 where
  entry : List ℕ → List ℕ → Entry

-- about a table and its pool, with the rest of a line
abbrev pub row_calls : List ℕ → List ℕ → List ℕ → List Entry
row_calls t p rest =
    entry (bytes "write-row") (write_row_call t p rest)
    ∷ entry (bytes "read-row") (read_row_call t p rest)
    ∷ entry (bytes "reader") (reader_call t p rest)
    ∷ []

abbrev pub calls : List ℕ → List ℕ → List ℕ → List Entry
calls t p rest =
    entry (bytes "check") (check_call t p rest)
    ∷ entry (bytes "write") (write_call t p rest)
    ∷ entry (bytes "read") (read_call t p rest)
    ∷ row_calls t p rest

unfoldable pub chosen : List ℕ → List Entry → List ℕ
chosen word [] = unreadable_text
chosen word (entry name text ∷ es) = cond (same word name) text (chosen word es)

-- the table of the last `table`, and its pool, if they could be read
pub data Known : Type 0 where
  about : List ℕ → List ℕ → Known
  nothing : Known

-- "A call line before the first `table` .. prints `unreadable`"; and after a `table` that is unreadable "so does each call up to the next `table`"
unfoldable pub line_text : Known → List ℕ → List ℕ
line_text (about t p) line = chosen (take (word_size line) line) (calls t p (drop (word_size line) line))
line_text nothing line = unreadable_text
