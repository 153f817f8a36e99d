-- `laying::lay::lay` is the writing walk over a buffer that is its own room; `tagged` a tag and a part, `both` two parts.
-- The measure is twice the depth left, and one more for those two. Each arm is one law of its shape, at its kind's items.
-- Assumes nothing.
use Prim.Native.Nat.{◌+◌, ◌*◌}
use Rattle.laying.proofs.lay.+both_lay_tagged.Given as goal

abbrev pub decreases-both : goal.decreases-both
decreases-both l = 2 * l.left + 1

abbrev pub decreases-lay : goal.decreases-lay
decreases-lay l = 2 * l.left

abbrev pub decreases-tagged : goal.decreases-tagged
decreases-tagged l = 2 * l.left + 1
