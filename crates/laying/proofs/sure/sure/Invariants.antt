-- `laying::sure::sure` fills the widths node by node.
-- Assumes nothing.
use Prim.Native.Nat.{◌+◌, ◌-◌, ◌≤◌}
use Rattle.laying.specs.Sure.{Widths}
use Rattle.laying.proofs.sure.sure.Given as goal

abbrev pub invariant-loop-k : goal.invariant-loop-k
invariant-loop-k l = Widths l.plan l.widths l.k × (l.k ≤ l.i + 1)

abbrev pub decreases-loop-k : goal.decreases-loop-k
decreases-loop-k l = l.i + 1 - l.k
