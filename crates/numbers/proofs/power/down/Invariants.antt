-- `numbers::power::down` goes down to a power within n: where the one after the first is not, none after is.
-- Assumes nothing.
use Prim.Native.Nat.{◌+◌, ◌^◌, ◌≤◌, ◌<◌}
use Rattle.numbers.proofs.power.down.Given as goal

abbrev pub invariant-loop-r : goal.invariant-loop-r
invariant-loop-r l = (l.r ≤ l.from) × (l.n < (l.from + 1) ^ l.t → l.n < (l.r + 1) ^ l.t)

abbrev pub decreases-loop-r : goal.decreases-loop-r
decreases-loop-r l = l.r
