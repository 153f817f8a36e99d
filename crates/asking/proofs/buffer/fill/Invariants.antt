-- `asking::buffer::fill` goes word by word.
-- Assumes nothing.
use Rattle.asking.proofs.Buffers.{Filling}
use Rattle.asking.proofs.buffer.fill.Given as goal

abbrev pub invariant-loop-i : goal.invariant-loop-i
invariant-loop-i l = Filling l.initial.buffer l.buffer l.i
