-- `grammar::kinds::dep::join` is the join of a dep.
-- Assumes nothing.
use Rattle.grammar.proofs.Joins.{few_sum, finite_join, endless_join}
use Rattle.grammar.proofs.kinds.dep.join.Goals as goal

pub sum_of-sum-requires-clause-sum_bound : goal.sum_of-sum-requires-clause-sum_bound
sum_of-sum-requires-clause-sum_bound c =
    rw c.run.ensures (few_sum c.requires.0 c.requires.1 c.if-plan-head-lt-ENDLESS.true)

pub returns-then-plan-head-lt-ENDLESS : goal.returns-then-plan-head-lt-ENDLESS
returns-then-plan-head-lt-ENDLESS c =
    let s = c.requires in
    rw (← finite_join s.0 s.1 c.if-plan-head-lt-ENDLESS.true _, ← c.run.ensures, ← c.sum_of-sum.ensures) c.join_finite.ensures

pub returns : goal.returns
returns c =
    let s = c.requires in
    rw (← endless_join s.0 s.1 c.if-plan-head-lt-ENDLESS.false _) c.join_endless.ensures
