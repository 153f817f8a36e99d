-- What `write` prints and leaves in the lent buffer, as calls.md has it.
--   write_text     of an answer, and of the words that the call wrote
--   case_text      of a number, with a buffer of so many words
--   PrintsCase    what is put on the page, and the words of the buffer
--   write_leaves   what a lent buffer holds then
--   write_call     of the rest of its line
-- Assumes nothing.
use Rattle.std.specs.Prelude.{◌≡◌, List, [], ◌∷◌, ◌++◌, ℕ, length, drop, Ok, Err}
use Rattle.grammar.specs.Sizes.{rules_of}
use Rattle.walk.specs.Walk.{walk, cells, depth}
use Rattle.cases.specs.Write.{Written, writes, leaves}
use Rattle.texts.specs.Ascii.{bytes}
use Rattle.texts.specs.declared.page.Page.{Page}
use Rattle.texts.specs.Page.{Puts}
use Rattle.texts.specs.Said.{unreadable_text, refused_line}
use Rattle.asking.specs.Fields.{fields_of, row_of, with_row}
use Rattle.asking.specs.Buffer.{start_words}
use Rattle.asking.specs.Texts.{cells_text}

unfoldable pub write_text : List ℕ → Written → List ℕ
write_text cs (Ok count) = cells_text count cs ++ bytes "\n"
write_text cs (Err e) = refused_line e.refusal e.node

unfoldable pub case_text : List ℕ → List ℕ → ℕ → ℕ → ℕ → List ℕ
case_text t p i room n = write_text (cells (walk (rules_of t p) depth 0 i n)) (writes t p i n room)

pub record PrintsCase (t p : List ℕ) (i n : ℕ) (old last : List ℕ) (page page' : Page) : Type 0 where
  pub puts : Puts (case_text t p i (length old) n) page page'
  pub buffer : last ≡ leaves (writes t p i n (length old)) (cells (walk (rules_of t p) depth 0 i n)) (start_words 0 (length old))

-- NUMBER, and no more
unfoldable pub alone : (ℕ → ℕ → ℕ → List ℕ) → ℕ → ℕ → List ℕ → List ℕ
alone f i room [] = unreadable_text
alone f i room (n ∷ []) = f i room n
alone f i room (n ∷ m ∷ ns) = unreadable_text

unfoldable pub write_leaves : List ℕ → List ℕ → ℕ → ℕ → List ℕ → List ℕ → List ℕ
write_leaves t p i room [] old = old
write_leaves t p i room (n ∷ []) old = leaves (writes t p i n room) (cells (walk (rules_of t p) depth 0 i n)) (start_words 0 room) ++ drop room old
write_leaves t p i room (n ∷ m ∷ ns) old = old

unfoldable pub write_call : List ℕ → List ℕ → List ℕ → List ℕ
write_call t p rest = with_row (alone (case_text t p)) (row_of (fields_of rest))
