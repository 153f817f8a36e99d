use mathlib.Core.Path.{sym, ◌∙◌}
use native.Mathlib.Omega.{arith}
use Rattle.printing.proofs.print.Cases.{go_none, go_more, go_all}
use Rattle.printing.proofs.input.Numbers.{one_within}
use Rattle.printing.proofs.print.put_cases.Goals as goal

pub loop-one-init : goal.loop-one-init
loop-one-init c =
    go_none

pub loop-one-smaller : goal.loop-one-smaller
loop-one-smaller c =
    omega (arith, one_within _ _ (sym c.one_at.ensures ∙ c.in-Some.is))

pub loop-one-preserved : goal.loop-one-preserved
loop-one-preserved c =
    go_more c.loop-one.invariant c.one_at.ensures c.in-Some.is c.put_answer.ensures

pub returns : goal.returns
returns c =
    go_all c.loop-one.invariant c.one_at.ensures c.in_default.is
