-- `grammar::kinds::dep::in_turn` goes through finite seconds, one after the other.
-- Assumes nothing.
use Rattle.grammar.proofs.SecondsInTurn.{Turning}
use Rattle.grammar.proofs.kinds.dep.in_turn.Given as goal

abbrev pub invariant-loop-k : goal.invariant-loop-k
invariant-loop-k l = Turning l.plan l.words l.n l.rest l.k
