-- What is left of a room, as the code hands it back.
--   met         why a walk stops
--   refusal_of  the refusal that says so
--   room_left   what is left, or why not
--   word_of     the code's word of it
-- Assumes nothing.
use Rattle.std.specs.Prelude.{ℕ, ◌+◌, ◌^◌, Result, Ok, Err}
use Rattle.grammar.specs.declared.refusal.Refusal.{Refusal}
use Rattle.grammar.specs.declared.refusal.Refusal.TheVariants as Refusals
use Rattle.walk.specs.Room.{RoomLeft, Left}
use Rattle.walk.specs.Room.{TooDeep as Deep, NoRoom as Full}
use Rattle.laying.specs.declared.rest.Stop.{Stop}
use Rattle.laying.specs.declared.rest.Stop.TheVariants.{TooDeep, NoRoom}

abbrev pub met : Stop → RoomLeft
met TooDeep = Deep
met NoRoom = Full

abbrev pub refusal_of : Stop → Refusal
refusal_of TooDeep = Refusals.TooDeep
refusal_of NoRoom = Refusals.NoRoom

abbrev pub room_left : Result ℕ Stop → RoomLeft
room_left (Ok rest) = Left rest
room_left (Err s) = met s

abbrev pub word_of : RoomLeft → ℕ
word_of (Left rest) = rest
word_of Deep = 2 ^ 63
word_of Full = 2 ^ 63 + 1
