-- `laying::tally::tally` is what the walk leaves of the room; `tagged` and `both` of a tag and a part, and of two parts.
-- The measure is twice the depth left, and one more for those two. Each arm is one law of its shape, at its kind's items.
-- Assumes nothing.
use Prim.Native.Nat.{◌+◌, ◌*◌}
use Rattle.laying.proofs.tally.+both_tagged_tally.Given as goal

abbrev pub decreases-both : goal.decreases-both
decreases-both l = 2 * l.left + 1

abbrev pub decreases-tagged : goal.decreases-tagged
decreases-tagged l = 2 * l.left + 1

abbrev pub decreases-tally : goal.decreases-tally
decreases-tally l = 2 * l.left
