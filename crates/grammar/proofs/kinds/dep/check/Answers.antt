-- `grammar::kinds::dep::check` is the row of dep.
-- Assumes nothing.
use Prim.Native.Nat.{◌+◌}
use lib.ListN.{length}
use borrow.Author.Tests.{le-leb}
use Rattle.grammar.specs.Checks.{row}
use Rattle.grammar.specs.kinds.Dep.{dep_rule}
use Rattle.grammar.specs.Plan.{size_word, weighed}
use Rattle.grammar.proofs.Tests.{few_test, few_count}
use Rattle.grammar.proofs.kinds.dep.check.Goals as goal

pub returns : goal.returns
unfolding weighed dep_rule row
returns c =
    let x = c.args in
    let m = size_word x.plan.now x.a in
    let inside = c.in_ok-words.ensures in
    λ t. rw (c.in_ok-asks.ensures, few_test m, c.in_ok-asks-2.ensures, few_count m c.in_ok-asks-2.ensures, le-leb (x.b + m) (length x.pool.now) inside.0)
    (rw inside.1 at c.seconds.ensures)
