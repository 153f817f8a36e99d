use mathlib.Core.Path.{ap, ◌∙◌}
use native.Mathlib.Omega.{arith}
use Rattle.grammar.specs.Named.{named}
use Rattle.cycles.proofs.Steps.{few_nodes, named_in, first_in, marking_more, marking_end}
use Rattle.cycles.proofs.search.mark_steps.Goals as goal

pub loop-k-init : goal.loop-k-init
loop-k-init c =
    let e = ap named c.into_iter-k-iterator.ensures.into_iter_gives ∙ c.steps_of-k-items.ensures in
    record { inside = named_in c.checked.ensures _ _ e; marks = rw e }

pub bounds-seen-k : goal.bounds-seen-k
bounds-seen-k c =
    omega (arith, first_in c.loop-k.invariant.inside c.in-Some.ensures.steps, few_nodes c.checked.ensures)

pub loop-k-preserved : goal.loop-k-preserved
loop-k-preserved c =
    marking_more c.loop-k.invariant c.in-Some.ensures.steps

pub returns : goal.returns
returns c =
    marking_end c.loop-k.invariant c.in-None.ensures.steps.0
