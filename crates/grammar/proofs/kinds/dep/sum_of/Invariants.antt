-- `grammar::kinds::dep::sum_of` sums the sizes of some seconds.
-- Assumes nothing.
use Rattle.grammar.proofs.Joins.{Summing}
use Rattle.grammar.proofs.kinds.dep.sum_of.Given as goal

abbrev pub invariant-loop-c : goal.invariant-loop-c
invariant-loop-c l = Summing l.plan l.words l.sum l.c-index
