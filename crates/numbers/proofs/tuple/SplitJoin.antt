-- Each of split and join undoes the other, once over the count.
--   split_long    t parts have t numbers
--   join_split    join undoes split
--   split_join    split undoes join
-- Assumes nothing.
use mathlib.Core.Path.{◌≡◌, refl}
use mathlib.Core.Bool.{false}
use mathlib.Core.List.{List, [], ◌∷◌}
use Prim.Native.Nat.{ℕ, ◌+◌, ◌-◌, ◌^◌, ◌<◌}
use native.Mathlib.Omega.{arith}
use lib.ListN.{length}
use Rattle.numbers.specs.Power.{root_of}
use Rattle.numbers.specs.Tuple.{largest, ways, tail, rank, split, join}
use Rattle.numbers.proofs.power.Powers.{root_is, root_one}
use Rattle.numbers.proofs.tuple.Places.{ways_layer, tail_full, tail_long, rank_tail, rank_below, tail_rank, full_most, most_full}

pub split_long : (t n : ℕ) → length (split t n) ≡ t
unfolding split
split_long t n = tail_long false (root_of t n) t (n - root_of t n ^ t)

module _ (t n : ℕ) (p : 0 < t) where
  -- what is left of a number is a place in its layer
  place : n - root_of t n ^ t < ways false (root_of t n) t
  place = omega (arith, ways_layer (root_of t n) t, (root_is t n p).within, (root_is t n p).most)

  pub join_split : join (split t n) ≡ n
  unfolding join split
  join_split =
      let r = root_of t n in
      let d = n - r ^ t in
      rw (most_full r (tail false r t d) (tail_full false r t d place), tail_long false r t d, rank_tail false r t d place)
      (omega (arith, (root_is t n p).within))

pub split_join : (ms : List ℕ) → split (length ms) (join ms) ≡ ms
unfolding split join tail
split_join [] = refl
split_join (x ∷ xs) =
    let ms = x ∷ xs in
    let r = largest ms in
    let t = length ms in
    let b = rank_below false r ms (full_most x xs) in
    let n = r ^ t + rank false r ms in
    let e : root_of t n ≡ r = root_one (root_is t n (omega arith)) (record { within = omega arith; most = omega (arith, ways_layer r t) }) in
    let k : n - r ^ t ≡ rank false r ms = omega arith in
    rw (e, k) (tail_rank false r ms (full_most x xs))
