-- `cycles::search::asked` asks the excepts for refusal 10, by their kind.
-- Assumes nothing.
use Rattle.grammar.specs.Nodes.{rule_at}
use Rattle.cycles.proofs.search.asked.Goals as goal

pub returns-then-guarded : goal.returns-then-guarded
unfolding rule_at
returns-then-guarded c =
    rw c.if-guarded.true (rw (← c.w.view_is) (c.skips.ensures _ _ _ _))
