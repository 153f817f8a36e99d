-- `numbers::tuple::weigh` goes by the recursion of the ways.
-- Assumes nothing.
use Rattle.numbers.proofs.tuple.Weighing.{AreWays, Weighed}
use Rattle.numbers.proofs.tuple.weigh.Given as goal

abbrev pub invariant-loop-w : goal.invariant-loop-w
invariant-loop-w l = AreWays l.r l.w-index l.next × Weighed l.r l.ways l.w-index
