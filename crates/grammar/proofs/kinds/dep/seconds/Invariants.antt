-- `grammar::kinds::dep::seconds` is the rest of a dep's row, in two passes over its seconds.
-- Assumes nothing.
use Rattle.grammar.proofs.Sums.{Passing}
use Rattle.grammar.proofs.kinds.dep.seconds.Given as goal

abbrev pub invariant-loop-c : goal.invariant-loop-c
invariant-loop-c l = Passing l.plan l.n l.words l.finite l.sum l.c-index
