use mathlib.Core.Path.{refl, sym, ◌∙◌}
use borrow.Author.Tests.{eqb-true, eqb-false}
use Rattle.graph.proofs.Marks.{blank}
use Rattle.cycles.proofs.Table.{sought_start, sought_again, sought_lower, falls_again, falls_lower, sought_end}
use Rattle.cycles.proofs.search.comes_back.Goals as goal

pub loop-top-init : goal.loop-top-init
loop-top-init c =
    rw c.count-top.ensures.count (sought_start c.count-top.ensures.ready c.mark_steps.ensures refl (blank 256))

pub loop-top-smaller-then-is_again : goal.loop-top-smaller-then-is_again
loop-top-smaller-then-is_again c =
    rw c.count-top-then-is_again.ensures.count (falls_again c.count-top.ensures.ready c.loop-top.invariant c.loop-top-test.true c.if-done-top.false)

pub loop-top-preserved-then-is_again : goal.loop-top-preserved-then-is_again
loop-top-preserved-then-is_again c =
    rw c.count-top-then-is_again.ensures.count
    (sought_again c.count-top.ensures.ready c.loop-top.invariant c.loop-top-test.true
    c.if-not-seen-top.false c.mark_steps-in-loop-top.ensures (eqb-true _ 9 (sym c.is_again.ensures ∙ c.if-is_again.true)))

pub loop-top-smaller : goal.loop-top-smaller
loop-top-smaller c =
    search (falls_lower, c.count-top.ensures.ready)

pub loop-top-preserved : goal.loop-top-preserved
loop-top-preserved c =
    sought_lower c.count-top.ensures.ready c.loop-top.invariant c.loop-top-test.true
    c.if-not-seen-top.false c.mark_steps-in-loop-top.ensures (eqb-false _ 9 (sym c.is_again.ensures ∙ c.if-is_again.false))

pub returns : goal.returns
returns c =
    search (sought_end, c.count-top.ensures.ready)
