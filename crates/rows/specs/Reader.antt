-- What the reader promises. 01: "The reader checks table and start at each call, then, standing at or past the row's end, returns 0 with 0 items and 0 cells
-- and stays;
-- else it answers as row reading does for one item and moves past it. After a refusal it stays."
--   Reply       an item handed out, the row's end, or a refusal
--   next_of     the answer at a place of a row
--   Within      an item ends within the row
--   after_of    the place after it
--   stride_of   both
--   next_answer 01's number, node, item and counts of an answer; next_says those of a call's
--   Strode     the answer and the place after it, for every input
--   Moved      the same of a reader
-- Assumes nothing.
use Rattle.std.specs.Prelude.{◌≡◌, List, [], ◌∷◌, ℕ, ◌+◌, ◌-◌, ◌≤◌, length, drop, Option, Some, None, Result, Ok, Err}
use Rattle.grammar.specs.Refusals.{number_of, refused as refuses}
use Rattle.grammar.specs.declared.refusal.Refused.{Refused}
use Rattle.grammar.specs.Rule.{Rule}
use Rattle.grammar.specs.Sizes.{rules_of}
use Rattle.checked.specs.Opening.{judged, opening}
use Rattle.checked.specs.Item.{Front, number, refused, front}
use Rattle.rows.specs.declared.reader.Reader.{Reader}
use Rattle.rows.specs.declared.reader.Next.{Next}
use Rattle.rows.specs.declared.reader.Stride.{Stride}

abbrev pub Reply : Type 0
Reply = Result (Option Next) Refused

abbrev pub hands : ℕ → ℕ → Reply
hands n k = Ok (Some (record { number = n; cells = k }))

abbrev pub at_end : Reply
at_end = Ok None

-- an item and the count of its cells: those to come less those after it
abbrev pub handed : ℕ → Front → Reply
handed count (number n rest) = hands n (count - length rest)
handed count (refused r) = refuses r 0

unfoldable pub next : (ℕ → Rule) → ℕ → List ℕ → Reply
next g i [] = at_end
next g i (c ∷ cs) = handed (length (c ∷ cs)) (front g i (c ∷ cs))

unfoldable pub next_of : List ℕ → List ℕ → ℕ → List ℕ → ℕ → Reply
next_of t p i row at = judged Err (opening t p i) (next (rules_of t p) i (drop at row))

-- an item ends within the row
abbrev pub Within : ℕ → Reply → List ℕ → Type 0
Within at r row = (n : Next) → r ≡ Ok (Some n) → at + n.cells ≤ length row

-- "moves past it. After a refusal it stays."
abbrev pub after_of : ℕ → Reply → ℕ
after_of at (Ok (Some n)) = at + n.cells
after_of at (Ok None) = at
after_of at (Err e) = at

abbrev pub stride_of : List ℕ → List ℕ → ℕ → List ℕ → ℕ → Stride
stride_of t p i row at = record { answer = next_of t p i row at; at = after_of at (next_of t p i row at) }

-- an item is handed out by itself, so its number in the call is 0
pub record NextAnswer : Type 0 where
  pub refusal : ℕ
  pub node : ℕ
  pub item : ℕ
  pub items : ℕ
  pub cells : ℕ
  pub number : ℕ

unfoldable pub next_answer : Reply → NextAnswer
next_answer (Ok (Some n)) = record { refusal = 0; node = 0; item = 0; items = 1; cells = n.cells; number = n.number }
next_answer (Ok None) = record { refusal = 0; node = 0; item = 0; items = 0; cells = 0; number = 0 }
next_answer (Err e) = record { refusal = number_of e.refusal; node = e.node; item = 0; items = 0; cells = 0; number = 0 }

unfoldable pub next_says : List ℕ → List ℕ → ℕ → List ℕ → ℕ → NextAnswer
next_says t p i row at = next_answer (next_of t p i row at)

-- the answer n at a place of a row, and the place after it
pub record Strode (t p : List ℕ) (i : ℕ) (row : List ℕ) (at : ℕ) (n : Reply) (to : ℕ) : Type 0 where
  pub says : next_answer n ≡ next_says t p i row at
  pub goes : to ≡ after_of at (next_of t p i row at)

-- the answer n of a reader, and the reader that is left: over the same row, at the place after the answer
abbrev pub Moved : List ℕ → List ℕ → ℕ → Reader → Reply → Reader → Type 0
Moved t p i old n last = Strode t p i old.row.now old.at n last.at × (last.row ≡ old.row)
