-- `taking::take::take` is what the reading walk reads; `tagged`, `both`, `chosen` and `without` what a visit of an or, a cons, a dep and an
-- except reads. The measure is twice the depth left, and one more for those four. Each arm of the walk is its kind's tree.
-- Assumes nothing.
use Prim.Native.Nat.{◌+◌, ◌*◌}
use Rattle.taking.proofs.take.+both_chosen_tagged_take_without.Given as goal

abbrev pub decreases-both : goal.decreases-both
decreases-both l = 2 * l.left + 1

abbrev pub decreases-chosen : goal.decreases-chosen
decreases-chosen l = 2 * l.left + 1

abbrev pub decreases-tagged : goal.decreases-tagged
decreases-tagged l = 2 * l.left + 1

abbrev pub decreases-take : goal.decreases-take
decreases-take l = 2 * l.left

abbrev pub decreases-without : goal.decreases-without
decreases-without l = 2 * l.left + 1
