use mathlib.Core.Path.{ap, ◌∙◌}
use native.Mathlib.Omega.{arith}
use Rattle.grammar.specs.Named.{named}
use Rattle.cycles.proofs.Steps.{few_nodes, named_in, first_in, asking_more, asking_no, asking_end}
use Rattle.cycles.proofs.safety.steps_safe.Goals as goal

pub loop-k-init : goal.loop-k-init
loop-k-init c =
    let e = ap named c.into_iter-k-iterator.ensures.into_iter_gives ∙ c.steps_of-steps.ensures in
    record { inside = named_in c.checked.ensures _ _ e; same = rw e }

pub bounds-safe-k : goal.bounds-safe-k
bounds-safe-k c =
    omega (arith, first_in c.loop-k.invariant.inside c.in-Some.ensures.steps, few_nodes c.checked.ensures)

pub loop-k-preserved : goal.loop-k-preserved
loop-k-preserved c =
    asking_more c.loop-k.invariant c.in-Some.ensures.steps c.if-not-safe-k.false

pub returns-then-not-safe-k : goal.returns-then-not-safe-k
returns-then-not-safe-k c =
    asking_no c.loop-k.invariant c.in-Some.ensures.steps c.if-not-safe-k.true

pub returns : goal.returns
returns c =
    asking_end c.loop-k.invariant c.in-None.ensures.steps.0
