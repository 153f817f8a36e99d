-- Whether one node of a graph leads to another by one or more steps, as a test that computes. `next a` are the nodes that a steps to.
-- `proofs/Ways` has the theorem that the test agrees with paths of any length.
--   via next k a b    a leads to b by way of nodes below k
-- Assumes nothing.
use Rattle.std.specs.Prelude.{Bool, ◌&&◌, ◌||◌, List, ℕ, zero, suc}
use Rattle.lists.specs.Lists.{has}

-- Whether a leads to b by steps of which the nodes in between are all below k: such a way passes no node but those below k - 1, or it goes to k - 1 and on
unfoldable pub via : (ℕ → List ℕ) → ℕ → ℕ → ℕ → Bool
via next zero a b = has b (next a)
via next (suc k) a b = via next k a b || (via next k a k && via next k k b)
