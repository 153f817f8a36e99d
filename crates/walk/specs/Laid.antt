-- A writing walk over a room and a buffer.
--   left_of   what a walk hands back, as a word
--   Laid     what is left of the room; and where the case fits the room, its cells are over the buffer's front
-- Assumes nothing.
use Rattle.std.specs.Prelude.{◌≡◌, List, ℕ, ◌^◌, eqb, ltb, length}
use Rattle.numbers.specs.Pick.{pick}
use Rattle.walk.specs.Walk.{Event, cells}
use Rattle.walk.specs.Room.{RoomLeft, Left, TooDeep, NoRoom, tallied}
use Rattle.lists.specs.Filled.{over}

-- the code's word
abbrev pub left_of : ℕ → RoomLeft
left_of w = pick (ltb w (2 ^ 63)) (Left w) (pick (eqb w (2 ^ 63)) TooDeep NoRoom)

pub record Laid (room : ℕ) (es : List Event) (old last : List ℕ) (r : RoomLeft) : Type 0 where
  pub is : r ≡ tallied room es
  pub long : length last ≡ length old
  pub holds : (rest : ℕ) → r ≡ Left rest → last ≡ over (cells es) old
