-- What `write_row` promises. 01: "items in order; the first that is refused stops the call .. Writing: 12, then the walk with the room left .. A row of no
-- items is done."
--   in_turn      the answer for the numbers, with a room
--   RowOver     the same, over a buffer
--   WroteItems  the same, and nothing changes in a buffer where it is refused
--   row_of       the cases of the numbers, one after another with no marks between
--   writes_row   the answer for a table, its pool, a start node, a room and the numbers; write_row_says its values
--   WroteRow    the answer and the buffer's last words, for every input
-- Assumes nothing.
use Rattle.std.specs.Prelude.{◌≡◌, List, [], ◌∷◌, ◌++◌, ℕ, ◌+◌, ◌-◌, length, Ok, Err}
use Rattle.grammar.specs.Rule.{Rule}
use Rattle.grammar.specs.Sizes.{rules_of}
use Rattle.lists.specs.Filled.{over}
use Rattle.checked.specs.Opening.{judged, opening}
use Rattle.checked.specs.Fits.{Fit, case_cells, fitted}
use Rattle.rows.specs.Row.{Outcome, done, refused_at, at_first, leaves, RowAnswer, row_answer}

-- an answer that has some items, with their cells, before it
abbrev pub later : ℕ → ℕ → Outcome → Outcome
later m c (Ok d) = done (m + d.items) (c + d.cells)
later m c (Err e) = refused_at e.refusal e.node (m + e.item)

-- an item that fits, and the rest of the row after its cells; or its refusal, at the first item
abbrev pub onward : Fit → (ℕ → Outcome) → Outcome
onward (Ok c) rest = later 1 c (rest c)
onward (Err r) rest = refused_at r 0 0

unfoldable pub in_turn : (ℕ → Rule) → ℕ → ℕ → List ℕ → Outcome
in_turn g i room [] = done 0 0
in_turn g i room (n ∷ ns) = onward (fitted g i n room) (λ c. in_turn g i (room - c) ns)

unfoldable pub row_of : (ℕ → Rule) → ℕ → List ℕ → List ℕ
row_of g i [] = []
row_of g i (n ∷ ns) = case_cells g i n ++ row_of g i ns

-- the answer for the numbers, and what becomes of a buffer: a row that is done is over its front
pub record RowOver (g : ℕ → Rule) (i : ℕ) (ns old last : List ℕ) (r : Outcome) : Type 0 where
  pub is : r ≡ in_turn g i (length old) ns
  pub long : length last ≡ length old
  pub holds : (m c : ℕ) → r ≡ done m c → last ≡ over (row_of g i ns) old

unfoldable pub writes_row : List ℕ → List ℕ → ℕ → ℕ → List ℕ → Outcome
writes_row t p i room ns = judged at_first (opening t p i) (in_turn (rules_of t p) i room ns)

unfoldable pub write_row_says : List ℕ → List ℕ → ℕ → ℕ → List ℕ → RowAnswer
write_row_says t p i room ns = row_answer (writes_row t p i room ns)

-- of a grammar and a node of it
pub record WroteItems (g : ℕ → Rule) (i : ℕ) (ns old last : List ℕ) (r : Outcome) : Type 0 where
  pub is : r ≡ in_turn g i (length old) ns
  pub holds : last ≡ leaves r (row_of g i ns) old

pub record WroteRow (t p : List ℕ) (i : ℕ) (ns old last : List ℕ) (r : Outcome) : Type 0 where
  pub says : row_answer r ≡ write_row_says t p i (length old) ns
  pub holds : last ≡ leaves r (row_of (rules_of t p) i ns) old
