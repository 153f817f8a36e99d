-- `calling::answer` answers line by line: all that the text prints is put on the page.
-- Assumes nothing.
use Prim.Native.Nat.{◌-◌}
use lib.ListN.{length}
use Rattle.calling.proofs.Input.{Answering}
use Rattle.calling.proofs.answer.Given as goal

abbrev pub invariant-loop-at : goal.invariant-loop-at
invariant-loop-at l = Answering l.text l.initial.page l.page l.desk l.at

abbrev pub decreases-loop-at : goal.decreases-loop-at
decreases-loop-at l = length l.text - l.at
