-- Worked rows of 01, "Cases on both sides" and the settled readings: one list, and one theorem over all of it, computed from the definitions.
--   rows, worked   the list and the theorem
-- Assumes nothing.
use mathlib.Core.Path.{◌≡◌, refl}
use mathlib.Core.List.{List, [], ◌∷◌, map}
use Prim.Native.Nat.{ℕ}
use Rattle.grammar.specs.Checks.{row}
use Rattle.grammar.specs.Sizes.{rules_of}
use Rattle.walk.proofs.Opened.{walking}
use Rattle.checked.specs.Fits.{fitted}
use Rattle.checked.specs.Opening.{opening}
use Rattle.checked.specs.Item.{front_of}
use Rattle.promises.proofs.Worked.{L}
use Rattle.rows.specs.Row.{RowAnswer, row_answer}
use Rattle.rows.specs.WriteRow.{writes_row, write_row_says}
use Rattle.rows.specs.WriteRow as Written
use Rattle.rows.specs.ReadRow.{gather, gotten, reads_row, read_row_says}
use Rattle.rows.specs.Reader.{next, next_of, NextAnswer, next_answer, next_says}

-- a table, a start node, a room, and numbers with what their row is; a room and cells with what they read as; a row and a place with what the reader says
pub data Worked : Type 0 where
  writes_as : List ℕ → ℕ → ℕ → List ℕ → List ℕ → List ℕ → Worked
  reads_as : List ℕ → ℕ → ℕ → List ℕ → List ℕ → List ℕ → Worked
  hands_as : List ℕ → ℕ → List ℕ → ℕ → List ℕ → Worked

-- refusal, node, item, items, cells; the same and the number
abbrev told : RowAnswer → List ℕ
told r = r.refusal ∷ r.node ∷ r.item ∷ r.items ∷ r.cells ∷ []

abbrev handed : NextAnswer → List ℕ
handed x = x.refusal ∷ x.node ∷ x.item ∷ x.items ∷ x.cells ∷ x.number ∷ []

unfoldable pub asked : Worked → List (List ℕ)
asked (writes_as t i room ns r cs) = told (write_row_says t [] i room ns) ∷ Written.row_of (rules_of t []) i ns ∷ []
asked (reads_as t i room cs r ns) = told (read_row_says t [] i room cs) ∷ gotten (gather (rules_of t []) i room cs) ∷ []
asked (hands_as t i row at x) = handed (next_says t [] i row at) ∷ []

unfoldable pub expected : Worked → List (List ℕ)
expected (writes_as t i room ns r cs) = r ∷ cs ∷ []
expected (reads_as t i room cs r ns) = r ∷ ns ∷ []
expected (hands_as t i row at x) = x ∷ []

-- "L, row of 1, 0, 3: 1 0 0 0 0 0 1 1 0 0"
abbrev pub l_row : List ℕ
l_row = 1 ∷ 0 ∷ 0 ∷ 0 ∷ 0 ∷ 0 ∷ 1 ∷ 1 ∷ 0 ∷ 0 ∷ []

-- below 2
abbrev pub two : List ℕ
two = 0 ∷ 2 ∷ 0 ∷ []

abbrev pub rows : List Worked
rows =
    writes_as L 5 10 (1 ∷ 0 ∷ 3 ∷ []) (0 ∷ 0 ∷ 0 ∷ 3 ∷ 10 ∷ []) l_row
    ∷ reads_as L 5 3 l_row (0 ∷ 0 ∷ 0 ∷ 3 ∷ 10 ∷ []) (1 ∷ 0 ∷ 3 ∷ [])
    -- the row of no items; a table and a start that are refused
    ∷ writes_as L 5 0 [] (0 ∷ 0 ∷ 0 ∷ 0 ∷ 0 ∷ []) []
    ∷ reads_as L 5 0 [] (0 ∷ 0 ∷ 0 ∷ 0 ∷ 0 ∷ []) []
    ∷ writes_as L 6 0 [] (11 ∷ 0 ∷ 0 ∷ 0 ∷ 0 ∷ []) []
    ∷ reads_as (9 ∷ 1 ∷ 0 ∷ 8 ∷ 0 ∷ 0 ∷ []) 0 0 [] (9 ∷ 0 ∷ 0 ∷ 0 ∷ 0 ∷ []) []
    -- one cell short; a number that is none at item 1; 14 at item 2
    ∷ writes_as L 5 9 (1 ∷ 0 ∷ 3 ∷ []) (14 ∷ 0 ∷ 2 ∷ 0 ∷ 0 ∷ []) l_row
    ∷ writes_as two 0 9 (1 ∷ 2 ∷ []) (12 ∷ 0 ∷ 1 ∷ 0 ∷ 0 ∷ []) (1 ∷ 2 ∷ [])
    -- the walk comes before "the buffer of numbers is full", and so does 16
    ∷ reads_as L 5 1 (0 ∷ 0 ∷ 2 ∷ []) (15 ∷ 0 ∷ 1 ∷ 0 ∷ 0 ∷ []) []
    ∷ reads_as (1 ∷ 0 ∷ 0 ∷ []) 0 1 (7 ∷ 4611686018427387904 ∷ []) (16 ∷ 0 ∷ 1 ∷ 0 ∷ 0 ∷ []) []
    ∷ reads_as L 5 2 l_row (14 ∷ 0 ∷ 2 ∷ 0 ∷ 0 ∷ []) []
    -- the reader at each place of L's row, at its end and past it, and within a case
    ∷ hands_as L 5 l_row 0 (0 ∷ 0 ∷ 0 ∷ 1 ∷ 4 ∷ 1 ∷ [])
    ∷ hands_as L 5 l_row 4 (0 ∷ 0 ∷ 0 ∷ 1 ∷ 2 ∷ 0 ∷ [])
    ∷ hands_as L 5 l_row 6 (0 ∷ 0 ∷ 0 ∷ 1 ∷ 4 ∷ 3 ∷ [])
    ∷ hands_as L 5 l_row 10 (0 ∷ 0 ∷ 0 ∷ 0 ∷ 0 ∷ 0 ∷ [])
    ∷ hands_as L 5 l_row 99 (0 ∷ 0 ∷ 0 ∷ 0 ∷ 0 ∷ 0 ∷ [])
    ∷ hands_as L 5 l_row 9 (15 ∷ 0 ∷ 0 ∷ 0 ∷ 0 ∷ 0 ∷ [])
    ∷ hands_as L 6 l_row 10 (11 ∷ 0 ∷ 0 ∷ 0 ∷ 0 ∷ 0 ∷ [])
    ∷ []

pub worked : map asked rows ≡ map expected rows
unfolding asked expected walking fitted front_of row_answer opening writes_row write_row_says Written.in_turn Written.row_of gather reads_row
    read_row_says next next_of next_answer next_says
worked = refl
