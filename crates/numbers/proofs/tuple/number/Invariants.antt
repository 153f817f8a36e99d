-- `numbers::tuple::number` is the number of the parts, from the last one on.
-- Assumes nothing.
use lib.ListN.{length}
use Rattle.numbers.proofs.tuple.Ranking.{Ranked}
use Rattle.numbers.proofs.tuple.number.Given as goal

abbrev pub invariant-loop-x : goal.invariant-loop-x
invariant-loop-x l = Ranked l.r l.parts l.ways l.before (length l.yielded)
