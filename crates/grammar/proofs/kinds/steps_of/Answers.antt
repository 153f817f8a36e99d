-- `grammar::kinds::steps_of` names the nodes that a node steps to.
-- Assumes nothing.
use mathlib.Core.Path.{sym, ◌∙◌}
use Rattle.grammar.specs.declared.kind.Kind.TheVariants.{Pool}
use Rattle.grammar.proofs.laws.{rules}
use Rattle.grammar.proofs.KindSteps.{steps_as, dep_first, dep_run, dep_steps}
use Rattle.grammar.proofs.kinds.steps_of.Goals as goal

pub steps-requires-in-Dep : goal.steps-requires-in-Dep
steps-requires-in-Dep c =
    let l = rw (← c.w.view_is) at c.requires in
    let e = sym (c.in-Ok.ensures {u = tt}) ∙ rw c.in-Dep.is in
    (dep_first c.w.invariant l e, dep_run c.w.invariant l e)

pub returns-in-Pool : goal.returns-in-Pool
unfolding rules
returns-in-Pool c =
    rw (← c.w.view_is) (c.none-in-Pool.ensures ∙ steps_as c.args.guarded _ _ _ _ Pool (rw c.in-Pool.is at c.in-Ok.ensures))

pub returns-in-Dep : goal.returns-in-Dep
returns-in-Dep c =
    let l = rw (← c.w.view_is) at c.requires in
    let e = sym (c.in-Ok.ensures {u = tt}) ∙ rw c.in-Dep.is in
    rw (← c.w.view_is) (c.steps-in-Dep.ensures ∙ dep_steps c.w.invariant l e _)
