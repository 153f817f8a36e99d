use native.Mathlib.Omega.{arith}
use Rattle.cycles.proofs.Safe.{pass_marked, pass_safe}
use Rattle.cycles.proofs.safety.safe_pass.Goals as goal

pub loop-n-preserved-then-safe-n : goal.loop-n-preserved-then-safe-n
loop-n-preserved-then-safe-n c =
    (omega arith, omega arith, pass_marked c.loop-n.invariant.2 c.if-safe-n.true)

pub loop-n-preserved-then-steps_safe : goal.loop-n-preserved-then-steps_safe
loop-n-preserved-then-steps_safe c =
    let i = c.loop-n.invariant in
    (omega arith, omega arith, pass_safe _ i.2.marked c.steps_safe.ensures c.if-steps_safe.true i.2)
