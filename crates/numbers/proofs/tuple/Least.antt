-- No part's number is above the tuple's: a walk down goes to no higher number.
--   at_most                         no part's number is above the largest
--   join_least, split_least         the largest part number is at most the number
--   join_least_at, split_least_at   and so is each
-- Assumes nothing.
use mathlib.Core.Path.{subst}
use mathlib.Core.List.{List, [], ◌∷◌}
use Prim.Native.Nat.{ℕ, zero, suc, ◌≤◌, ◌<◌}
use native.Mathlib.Omega.{arith}
use lib.ListN.{length, get_or}
use Rattle.numbers.specs.Tuple.{largest, split, join}
use Rattle.numbers.proofs.power.Powers.{self_pow}
use Rattle.numbers.proofs.tuple.SplitJoin.{join_split}

pub at_most : (ms : List ℕ) (i : ℕ) → get_or ms i 0 ≤ largest ms
unfolding largest
at_most [] i = omega arith
at_most (m ∷ ms) zero = omega arith
at_most (m ∷ ms) (suc i) = omega (arith, at_most ms i)

pub join_least : (ms : List ℕ) → largest ms ≤ join ms
unfolding join largest
join_least [] = omega arith
join_least (m ∷ ms) = omega (arith, self_pow (largest (m ∷ ms)) (length ms))

pub join_least_at : (ms : List ℕ) (i : ℕ) → get_or ms i 0 ≤ join ms
join_least_at ms i = omega (arith, at_most ms i, join_least ms)

module _ (t n : ℕ) (p : 0 < t) where
  pub split_least : largest (split t n) ≤ n
  split_least = subst (λ b. largest (split t n) ≤ b) (join_split t n p) (join_least (split t n))

  pub split_least_at : (i : ℕ) → get_or (split t n) i 0 ≤ n
  split_least_at i = omega (arith, at_most (split t n) i, split_least)
