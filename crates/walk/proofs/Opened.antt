-- All that the two walks compute with, opened by one name: a worked case says `unfolding walking`.
-- Assumes nothing.
use Rattle.grammar.proofs.Opened.{checking}
use Rattle.walk.specs.Walk.{shown, walk, cells}
use Rattle.walk.specs.Room.{tallied}
use Rattle.walk.specs.Run.{cell_of, follow, run}

unfoldable pub walking : Unit {0}
unfolding checking shown walk cells tallied cell_of follow run
walking = tt
