-- `grammar::kinds::cons::check` is the row of cons.
-- Assumes nothing.
use Rattle.numbers.specs.Size.{times}
use Rattle.grammar.specs.kinds.Cons.{cons_rule}
use Rattle.grammar.specs.Plan.{size_in, weighed}
use Rattle.grammar.proofs.Sums.{pair_row}
use Rattle.grammar.proofs.kinds.cons.check.Goals as goal

pub returns : goal.returns
unfolding weighed cons_rule
returns c =
    λ t p. pair_row times (size_in c.args.plan.now) _ _ _ c.in_ok-asks.ensures c.in_ok-asks-2.ensures c.product.ensures c.ok_or.ensures.value
