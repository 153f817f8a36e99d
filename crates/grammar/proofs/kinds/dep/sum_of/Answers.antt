use Rattle.grammar.proofs.Joins.{summing_more, summing_end}
use Rattle.grammar.proofs.kinds.dep.sum_of.Goals as goal

pub loop-c-preserved : goal.loop-c-preserved
loop-c-preserved c =
    search summing_more

pub returns : goal.returns
returns c =
    search summing_end
