-- `asking::buffer::changed_from` goes word by word to one that has changed or to the end.
-- Assumes nothing.
use Rattle.asking.proofs.Buffers.{Looking}
use Rattle.asking.proofs.buffer.changed_from.Given as goal

abbrev pub invariant-loop-i : goal.invariant-loop-i
invariant-loop-i l = Looking l.buffer l.from l.i
