-- What a line asks of its call: START, ROOM where a buffer is lent, and a row of words behind them.
--   most_row, most_room      calls.md: "ROOM is how many words the lent buffer has, at most 70,000; a row has at most 70,000 words."
--   most_fields             how many words are lent for the fields
--   fields_of               the fields behind a call's word: a space stands before the first
--   cells_of, with_cells     START CELL CELL .. in the fields, and what a call with them prints
--   row_of, with_row         START, ROOM and a row in the fields, and what a call with them prints
--   TakesCells, TakesRow   what taking them answers, and the words that hold the fields then
--   CellsCall, LentCall    what a call of either form puts on the page, and leaves in what is lent to it
-- Assumes nothing.
use Rattle.std.specs.Prelude.{◌≡◌, cond, ◌&&◌, List, [], ◌∷◌, ℕ, ◌-◌, ◌≤◌, leb, length, take, drop, Option, Some, None}
use Rattle.texts.specs.Line.{Reading, numbers, unreadable, line_at, within, stored}
use Rattle.texts.specs.Page.{Puts}
use Rattle.texts.specs.Said.{unreadable_text}
use Rattle.asking.specs.declared.fields.Cells.{Cells}
use Rattle.asking.specs.declared.fields.Lent.{Lent}
use Rattle.texts.specs.declared.page.Page.{Page}

abbrev pub most_row : ℕ
most_row = 70000

abbrev pub most_room : ℕ
most_room = 70000

-- a row, with START and ROOM before it
abbrev pub most_fields : ℕ
most_fields = 70002

abbrev pub fields_of : List ℕ → Reading
fields_of rest = line_at rest 1

-- ---- START CELL CELL ..
pub data CellsAsked : Type 0 where
  cells : (start : ℕ) (row : List ℕ) → CellsAsked
  no_cells : CellsAsked

abbrev pub cells_of : Reading → CellsAsked
cells_of (numbers [] next) = no_cells
cells_of (numbers (i ∷ cs) next) = cond (leb (length cs) most_row) (cells i cs) no_cells
cells_of unreadable = no_cells

abbrev pub with_cells : (ℕ → List ℕ → List ℕ) → CellsAsked → List ℕ
with_cells f (cells i cs) = f i cs
with_cells f no_cells = unreadable_text

-- ---- START, ROOM and a row
pub data RowAsked : Type 0 where
  row : (start room : ℕ) (words : List ℕ) → RowAsked
  no_row : RowAsked

abbrev pub row_of : Reading → RowAsked
row_of (numbers [] next) = no_row
row_of (numbers (i ∷ []) next) = no_row
row_of (numbers (i ∷ room ∷ ws) next) = cond (leb (length ws) most_row && leb room most_room) (row i room ws) no_row
row_of unreadable = no_row

abbrev pub with_row : (ℕ → ℕ → List ℕ → List ℕ) → RowAsked → List ℕ
with_row f (row i room ws) = f i room ws
with_row f no_row = unreadable_text

-- ---- what an answer stands for, with the words that hold the fields; and how many they are
abbrev pub cells_in : List ℕ → Option Cells → CellsAsked
cells_in words (Some c) = cells c.start (take (c.count - 1) (drop 1 words))
cells_in words None = no_cells

abbrev pub CellsFit : Option Cells → Type 0
CellsFit (Some c) = (1 ≤ c.count) × (c.count ≤ most_fields)
CellsFit None = Unit {0}

pub record TakesCells (rest old last : List ℕ) (r : Option Cells) : Type 0 where
  pub asks : cells_in last r ≡ cells_of (fields_of rest)
  pub fits : CellsFit r
  pub leaves : last ≡ stored old (within (length old) (fields_of rest))

abbrev pub row_in : List ℕ → Option Lent → RowAsked
row_in words (Some l) = row l.start l.room (take (l.count - 2) (drop 2 words))
row_in words None = no_row

abbrev pub RowFits : Option Lent → Type 0
RowFits (Some l) = (2 ≤ l.count) × (l.count ≤ most_fields) × (l.room ≤ most_room)
RowFits None = Unit {0}

pub record TakesRow (rest old last : List ℕ) (r : Option Lent) : Type 0 where
  pub asks : row_in last r ≡ row_of (fields_of rest)
  pub fits : RowFits r
  pub leaves : last ≡ stored old (within (length old) (fields_of rest))

-- ---- the whole call
pub record CellsCall (text rest fields fields' : List ℕ) (page page' : Page) : Type 0 where
  pub puts : Puts text page page'
  pub leaves : fields' ≡ stored fields (within (length fields) (fields_of rest))

-- the lent buffer, by START, ROOM, the row and its words before
abbrev pub lent_by : (ℕ → ℕ → List ℕ → List ℕ → List ℕ) → RowAsked → List ℕ → List ℕ
lent_by f (row i room ws) old = f i room ws old
lent_by f no_row old = old

pub record LentCall (text : List ℕ) (f : ℕ → ℕ → List ℕ → List ℕ → List ℕ) (rest fields fields' buffer buffer' : List ℕ) (page page' : Page) : Type 0 where
  pub puts : Puts text page page'
  pub leaves : fields' ≡ stored fields (within (length fields) (fields_of rest))
  pub lent : buffer' ≡ lent_by f (row_of (fields_of rest)) buffer
