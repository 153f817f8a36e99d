-- What `read_row` promises. 01: "Reading: the walk, then 16, then 14 if the buffer of numbers is full. A row of no items is done."
--   Gathered    all numbers of a row, or the refusal and the item that stops it
--   gather      of cells, with a room for numbers
--   NumbersOver the same, over a buffer
--   GotItems    the same, and nothing changes in a buffer where it is refused
--   reads_row    the answer for a table, its pool, a start node, a room and the cells; read_row_says its values
--   GotRow      the answer and the buffer's last words, for every input
-- Assumes nothing.
use Rattle.std.specs.Prelude.{◌≡◌, List, [], ◌∷◌, ℕ, zero, suc, length}
use Rattle.grammar.specs.declared.refusal.Refusal.{Refusal}
use Rattle.grammar.specs.declared.refusal.Refusal.TheVariants.{NoRoom}
use Rattle.grammar.specs.Rule.{Rule}
use Rattle.grammar.specs.Sizes.{rules_of}
use Rattle.lists.specs.Filled.{over}
use Rattle.checked.specs.Opening.{judged, opening}
use Rattle.checked.specs.Item.{Front, number, refused, front}
use Rattle.rows.specs.Row.{Outcome, done, refused_at, at_first, leaves, RowAnswer, row_answer}

pub data Gathered : Type 0 where
  all : List ℕ → Gathered
  stopped : Refusal → ℕ → Gathered

-- the numbers after the first, or the item that stops them
abbrev pub after : ℕ → Gathered → Gathered
after n (all ns) = all (n ∷ ns)
after n (stopped r item) = stopped r (suc item)

-- "then 14 if the buffer of numbers is full"
abbrev pub full : Front → Gathered
full (number n rest) = stopped NoRoom 0
full (refused r) = stopped r 0

abbrev pub onward : Front → (List ℕ → Gathered) → Gathered
onward (number n rest) f = after n (f rest)
onward (refused r) f = stopped r 0

unfoldable pub gather : (ℕ → Rule) → ℕ → ℕ → List ℕ → Gathered
gather g i zero [] = all []
gather g i (suc room) [] = all []
gather g i zero (c ∷ cs) = full (front g i (c ∷ cs))
gather g i (suc room) (c ∷ cs) = onward (front g i (c ∷ cs)) (λ rest. gather g i room rest)

-- a row of so many cells that is read is read to its end
abbrev pub answered : ℕ → Gathered → Outcome
answered used (all ns) = done (length ns) used
answered used (stopped r item) = refused_at r 0 item

abbrev pub gotten : Gathered → List ℕ
gotten (all ns) = ns
gotten (stopped r item) = []

-- the answer for the cells, and what becomes of a buffer: the numbers of a row that is done are over its front, as far as that goes
pub record NumbersOver (g : ℕ → Rule) (i room : ℕ) (cs old last : List ℕ) (r : Outcome) : Type 0 where
  pub is : r ≡ answered (length cs) (gather g i room cs)
  pub long : length last ≡ length old
  pub holds : (m c : ℕ) → r ≡ done m c → last ≡ over (gotten (gather g i room cs)) old

unfoldable pub reads_row : List ℕ → List ℕ → ℕ → ℕ → List ℕ → Outcome
reads_row t p i room cs = judged at_first (opening t p i) (answered (length cs) (gather (rules_of t p) i room cs))

unfoldable pub read_row_says : List ℕ → List ℕ → ℕ → ℕ → List ℕ → RowAnswer
read_row_says t p i room cs = row_answer (reads_row t p i room cs)

pub record GotRow (t p : List ℕ) (i : ℕ) (cs old last : List ℕ) (r : Outcome) : Type 0 where
  pub says : row_answer r ≡ read_row_says t p i (length old) cs
  pub holds : last ≡ leaves r (gotten (gather (rules_of t p) i (length old) cs)) old

-- of a grammar and a node of it
pub record GotItems (g : ℕ → Rule) (i : ℕ) (cs old last : List ℕ) (r : Outcome) : Type 0 where
  pub is : r ≡ answered (length cs) (gather g i (length old) cs)
  pub holds : last ≡ leaves r (gotten (gather g i (length old) cs)) old
