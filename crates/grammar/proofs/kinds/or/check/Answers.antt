-- `grammar::kinds::or::check` is the row of or.
-- Assumes nothing.
use Rattle.numbers.specs.Size.{plus}
use Rattle.grammar.specs.kinds.Or.{or_rule}
use Rattle.grammar.specs.Plan.{size_in, weighed}
use Rattle.grammar.proofs.Sums.{pair_row}
use Rattle.grammar.proofs.kinds.or.check.Goals as goal

pub returns : goal.returns
unfolding weighed or_rule
returns c =
    λ t p. pair_row plus (size_in c.args.plan.now) _ _ _ c.in_ok-asks.ensures c.in_ok-asks-2.ensures c.sum.ensures c.ok_or.ensures.value
