-- One number on a checked table. 01: "12, then the walk with the room left".
--   asked, Asked   "Numbers asked for are below 2^62 and below the size."
--   room_for    "a longer buffer to write into counts as that long for one case"
--   Fit         the count of the case's cells, or why it is refused
--   case_cells  the cells that the walk from a node meets
--   fitted     the count of the case's cells, or the refusal
--   FitOver    the same, and what the second pass makes of a buffer
--   Placed     the same, and what a call on one number makes of it
-- Assumes nothing.
use Rattle.std.specs.Prelude.{◌≡◌, Bool, false, ◌&&◌, List, ℕ, ◌-◌, ◌^◌, ◌<◌, min, ltb, length, Result, Ok, Err}
use Rattle.numbers.specs.Pick.{pick}
use Rattle.numbers.specs.Size.{Size, below, Below}
use Rattle.grammar.specs.declared.refusal.Refusal.{Refusal}
use Rattle.grammar.specs.declared.refusal.Refusal.TheVariants.{NoSuchNumber, TooDeep, NoRoom}
use Rattle.grammar.specs.Rule.{Rule}
use Rattle.walk.specs.Walk.{walk, cells, depth}
use Rattle.lists.specs.Filled.{over}
use Rattle.walk.specs.Room.{RoomLeft, Left, tallied, most}
use Rattle.walk.specs.Room.{TooDeep as Deep, NoRoom as Full}

abbrev pub asked : Size → ℕ → Bool
asked s n = below n s && ltb n (2 ^ 62)

-- the same, as a fact
pub record Asked (s : Size) (n : ℕ) : Type 0 where
  pub below : Below n s
  pub small : n < 2 ^ 62

abbrev pub room_for : ℕ → ℕ
room_for room = min room most

abbrev pub Fit : Type 0
Fit = Result ℕ Refusal

abbrev pub case_cells : (ℕ → Rule) → ℕ → ℕ → List ℕ
case_cells g i n = cells (walk g depth 0 i n)

-- what is left of the room says how many cells there are
abbrev pub outcome : ℕ → RoomLeft → Fit
outcome room (Left rest) = Ok (room - rest)
outcome room Deep = Err TooDeep
outcome room Full = Err NoRoom

unfoldable pub fitted : (ℕ → Rule) → ℕ → ℕ → ℕ → Fit
fitted g i n room = pick (asked (g i).size n) (outcome (room_for room) (tallied (room_for room) (walk g depth 0 i n))) (Err NoSuchNumber)

-- a case that fits is over the buffer's front; after 12 the buffer is as it was
pub record FitOver (g : ℕ → Rule) (i n : ℕ) (old last : List ℕ) (r : Fit) : Type 0 where
  pub is : r ≡ fitted g i n (length old)
  pub long : length last ≡ length old
  pub holds : (k : ℕ) → r ≡ Ok k → last ≡ over (case_cells g i n) old
  pub kept : asked (g i).size n ≡ false → last ≡ old

-- "no lent word changes"; "Success writes the case's cells only, the rest of the buffer keeps its bytes"
abbrev pub places : Fit → List ℕ → List ℕ → List ℕ
places (Ok k) cs old = over cs old
places (Err r) cs old = old

pub record Placed (g : ℕ → Rule) (i n : ℕ) (old last : List ℕ) (r : Fit) : Type 0 where
  pub is : r ≡ fitted g i n (length old)
  pub holds : last ≡ places r (case_cells g i n) old
