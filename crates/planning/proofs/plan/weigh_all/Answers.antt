use native.Mathlib.Omega.{arith}
use Rattle.std.proofs.lemmas.Result.{err_from_is_err_and}
use Rattle.planning.proofs.Scan.{weighing_none, weighing_more, weighing_fault, weighing_end}
use Rattle.planning.proofs.plan.weigh_all.Goals as goal

pub loop-n-init : goal.loop-n-init
loop-n-init c =
    search weighing_none

pub loop-n-preserved : goal.loop-n-preserved
loop-n-preserved c =
    rw c.put.ensures (weighing_more c.loop-n.invariant (omega arith) c.in_ok-entry.ensures)

pub returns-in_err-entry : goal.returns-in_err-entry
returns-in_err-entry c =
    let p = err_from_is_err_and c.from_residual.result c.from_residual.ensures.1 in
    rw (p.1, p.2) (weighing_fault c.loop-n.invariant (omega arith) c.in_err-entry.ensures)

pub returns : goal.returns
returns c =
    search weighing_end
