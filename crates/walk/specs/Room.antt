-- A walk with a room for cells: "of 13 and 14 the one first met in walk order is given".
--   RoomLeft   what is left of the room, or 13 or 14
--   tallied    the room that is left after all cells, or what is met first
--   most       "A case has at most 65,536 cells"
--   Case       which cells are the case of a number
-- Assumes nothing.
use Rattle.std.specs.Prelude.{◌≡◌, List, [], ◌∷◌, map, ℕ, zero, suc, ◌≤◌, length}
use Rattle.grammar.specs.Rule.{Rule}
use Rattle.walk.specs.Walk.{Event, cell, deep, walk, depth}

pub data RoomLeft : Type 0 where
  Left : ℕ → RoomLeft
  TooDeep : RoomLeft
  NoRoom : RoomLeft

unfoldable pub tallied : ℕ → List Event → RoomLeft
tallied room [] = Left room
tallied room (deep ∷ es) = TooDeep
tallied zero (cell c ∷ es) = NoRoom
tallied (suc room) (cell c ∷ es) = tallied room es

abbrev pub most : ℕ
most = 65536

-- the walk meets these cells and nothing else, and they are not too many
pub record Case (g : ℕ → Rule) (i n : ℕ) (cs : List ℕ) : Type 0 where
  pub shows : walk g depth 0 i n ≡ map cell cs
  pub few : length cs ≤ most
