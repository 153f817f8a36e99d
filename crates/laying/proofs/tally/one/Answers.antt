-- `laying::tally::one` is what one cell leaves of the room.
-- Assumes nothing.
use mathlib.Core.Path.{◌∙◌}
use Rattle.walk.proofs.Rooms.{tallied_full, tallied_one}
use Rattle.laying.proofs.tally.one.Goals as goal

pub returns-then-room-eq0 : goal.returns-then-room-eq0
returns-then-room-eq0 c =
    c.stopped.ensures ∙ tallied_full _ _ _ c.if-room-eq0.true

pub returns : goal.returns
returns c =
    c.left.ensures ∙ tallied_one _ _ c.if-room-eq0.false
