-- All that the check of a table computes with, opened by one name: a worked case says `unfolding checking`.
-- Assumes nothing.
use Rattle.numbers.specs.Size.{plus, times, less}
use Rattle.numbers.specs.Root.{root_by, root}
use Rattle.numbers.specs.Or
use Rattle.numbers.specs.Cons
use Rattle.numbers.specs.Dep.{in_turn}
use Rattle.numbers.specs.Dep
use Rattle.numbers.specs.Except
use Rattle.graph.specs.Ways.{via}
use Rattle.graph.specs.Lowest.{lowest}
use Rattle.grammar.specs.Refusals.{number_of}
use Rattle.grammar.specs.Checks.{row}
use Rattle.grammar.specs.Nodes.{rule_at, row_at}
use Rattle.grammar.specs.Sizes.{onward, scan, sizes}
use Rattle.grammar.proofs.laws.{ruling}
use Rattle.grammar.specs.Verdict.{leads, unguarded, except_on_cycle, cycles, settled, verdict}

unfoldable pub sums : Unit {0}
unfolding plus times less root_by root Or.split Or.join Cons.split Cons.join in_turn Dep.split Dep.join Dep.total Except.split Except.join
sums = tt

unfoldable pub checking : Unit {0}
unfolding sums ruling via lowest number_of row rule_at row_at onward scan sizes leads unguarded except_on_cycle cycles settled verdict
checking = tt
