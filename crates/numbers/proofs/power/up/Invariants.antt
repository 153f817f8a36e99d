-- `numbers::power::up` goes up to the last power within n.
-- Assumes nothing.
use Prim.Native.Nat.{◌-◌, ◌^◌, ◌≤◌}
use Rattle.numbers.specs.Power.{root_of}
use Rattle.numbers.proofs.power.up.Given as goal

abbrev pub invariant-loop-r : goal.invariant-loop-r
invariant-loop-r l = l.r ^ l.t ≤ l.n

abbrev pub decreases-loop-r : goal.decreases-loop-r
decreases-loop-r l = root_of l.t l.n - l.r
