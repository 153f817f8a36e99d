use native.Mathlib.Omega.{arith}
use Rattle.cycles.proofs.Safe.{settled_none, settled_more, settled_all}
use Rattle.cycles.proofs.safety.all_settled.Goals as goal

pub loop-n-init : goal.loop-n-init
loop-n-init c =
    settled_none c.requires

pub loop-n-preserved-then-safe-n : goal.loop-n-preserved-then-safe-n
loop-n-preserved-then-safe-n c =
    let i = c.loop-n.invariant in settled_more i (omega arith) i.marked c.if-safe-n.true

pub loop-n-preserved : goal.loop-n-preserved
loop-n-preserved c =
    settled_more c.loop-n.invariant (omega arith) c.settle.ensures c.if-not-safe-n.false

pub returns : goal.returns
returns c =
    λ e. settled_all c.count-n-end.ensures.ready c.loop-n.invariant (omega arith)
