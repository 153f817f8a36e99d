use mathlib.Core.Path.{ap, ◌∙◌}
use Rattle.grammar.specs.Named.{named}
use Rattle.cycles.proofs.Steps.{named_in}
use Rattle.cycles.proofs.Safe.{now_marked}
use Rattle.cycles.proofs.safety.+settle.Goals as goal

pub loop-k-init : goal.loop-k-init
loop-k-init t c =
    (named_in c.checked.ensures _ _ (ap named c.into_iter-k-iterator.ensures.into_iter_gives ∙ c.steps_of-k-items.ensures), c.requires.safe_marks)

pub returns-then-steps_safe : goal.returns-then-steps_safe
returns-then-steps_safe t c = now_marked _ c.loop-k.invariant.1 c.steps_safe.ensures c.if-steps_safe.true
