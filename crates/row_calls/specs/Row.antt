-- What a call on a row prints and leaves in the lent buffer, as calls.md has it.
--   row_text      of an answer, and of the words that the call wrote
--   PrintsRow    what is put on the page, and the words of the buffer
-- Assumes nothing.
use Rattle.std.specs.Prelude.{◌≡◌, List, ◌++◌, ℕ, length, Ok, Err}
use Rattle.rows.specs.Row.{Outcome, leaves}
use Rattle.texts.specs.Ascii.{bytes}
use Rattle.texts.specs.declared.page.Page.{Page}
use Rattle.texts.specs.Page.{Puts}
use Rattle.asking.specs.Buffer.{start_words}
use Rattle.asking.specs.Texts.{refused_item, items_text, cells_text}

unfoldable pub row_text : List ℕ → Outcome → List ℕ
row_text words (Ok d) = items_text d.items ++ (cells_text d.cells words ++ bytes "\n")
row_text words (Err e) = refused_item e.refusal e.node e.item ++ bytes "\n"

pub record PrintsRow (words : List ℕ) (answer : Outcome) (old last : List ℕ) (page page' : Page) : Type 0 where
  pub puts : Puts (row_text words answer) page page'
  pub buffer : last ≡ leaves answer words (start_words 0 (length old))
