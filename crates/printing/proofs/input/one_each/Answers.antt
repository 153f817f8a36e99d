use mathlib.Core.Path.{sym, ◌∙◌}
use native.Mathlib.Omega.{arith}
use Rattle.printing.proofs.input.Numbers.{one_within, pass_start, pass_more, pass_not, pass_end}
use Rattle.printing.proofs.input.one_each.Goals as goal

pub loop-at-init : goal.loop-at-init
loop-at-init c =
    pass_start

pub loop-at-smaller : goal.loop-at-smaller
loop-at-smaller c =
    omega (arith, one_within _ _ (sym c.one_at.ensures ∙ c.in-Some.is))

pub loop-at-preserved : goal.loop-at-preserved
loop-at-preserved c =
    pass_more c.loop-at.invariant c.loop-at-test.true c.one_at.ensures c.in-Some.is

pub returns-in_default : goal.returns-in_default
returns-in_default c =
    pass_not c.loop-at.invariant c.loop-at-test.true c.one_at.ensures c.in_default.is

pub returns : goal.returns
returns c =
    pass_end c.loop-at.invariant c.loop-at-test.false
