-- The number of part numbers, from the last one on.
--   last_long, last_more   the last parts, one by one
--   Ranked                 the ways of the last i parts, and how many lists of as many come before them
--   Layer                  what is known of the parts and their largest number
--   none_ranked            of no parts
--   ranked                 of one more; lower_is, at_is   which is below the largest number, or is that
--   all_ranked             of all of them: the tuple's number
--   lower, .._fits         each sum and difference on the way is a word
-- Assumes nothing.
use mathlib.Core.Path.{◌≡◌, refl, ap}
use mathlib.Core.Bool.{Bool, true, false}
use mathlib.Core.List.{List, [], ◌∷◌}
use Prim.Native.Nat.{ℕ, zero, suc, ◌+◌, ◌*◌, ◌-◌, ◌^◌, ◌≤◌, ◌<◌}
use native.Mathlib.Nat.{mul-le-mul, le_refl}
use native.Mathlib.Omega.{arith}
use lib.Dec.{ltb}
use lib.ListN.{length, drop, get_or, length-drop, drop_of_length-le}
use lib.Seq.{drop-cons}
use borrow.Author.Tests.{ltb-false, lt-ltb, le-ltb}
use Rattle.numbers.specs.Pick.{pick}
use Rattle.numbers.specs.Tuple.{largest, rank, join}
use Rattle.numbers.specs.declared.tuple.Ways.{Ways}
use Rattle.numbers.proofs.Tests.{pick_by}
use Rattle.numbers.proofs.tuple.Places.{full_up, rank_below, ways_met, ways_layer}
use Rattle.numbers.proofs.tuple.Least.{at_most}
use Rattle.numbers.proofs.tuple.Weighing.{AreWays, none_ways, ways_low, ways_fits, both_next}

-- ---- places of any lists
times_low : (x : ℕ) {v w : ℕ} → v ≤ w → x * v ≤ x * w
times_low x {v} {w} h = mul-le-mul {n₁ = x} {m₁ = v} {n₂ = x} {m₂ = w} (le_refl x) h

rank_low : (met : Bool) (r : ℕ) (xs : List ℕ) → rank met r xs ≤ rank true r xs
unfolding rank
rank_low met r [] = omega arith
rank_low met r (x ∷ xs) = by (ltb x r) (rank_low met r xs) (ways_low met r (length xs))
  where
    by : (q : Bool) {k l v w : ℕ} → k ≤ l → v ≤ w → pick q (x * v + k) (r * v + l) ≤ pick q (x * w + l) (r * w + l)
    by true h b = omega (arith, times_low x b)
    by false h b = omega (arith, times_low r b)

drop_low : (n : ℕ) (xs : List ℕ) → largest (drop n xs) ≤ largest xs
unfolding largest
drop_low zero xs = le_refl _
drop_low (suc n) [] = omega arith
drop_low (suc n) (x ∷ xs) = omega (arith, drop_low n xs)

-- ---- the last parts
last_long : (parts : List ℕ) (i : ℕ) → i ≤ length parts → length (drop (length parts - i) parts) ≡ i
last_long parts i h = rw (length-drop (length parts - i) parts) (omega arith)

last_more : (parts : List ℕ) (i : ℕ) → i < length parts
    → drop (length parts - (i + 1)) parts ≡ get_or parts (length parts - 1 - i) 0 ∷ drop (length parts - i) parts
last_more parts i h =
    let a : length parts - (i + 1) ≡ length parts - 1 - i = omega arith in
    let b : length parts - i ≡ suc (length parts - 1 - i) = omega arith in
    rw (a, b) (drop-cons parts (length parts - 1 - i) 0 (omega arith))

-- ---- the last i parts
pub record Ranked (r : ℕ) (parts : List ℕ) (w before : Ways) (i : ℕ) : Type 0 where
  pub within : i ≤ length parts
  pub counted : AreWays r i w
  pub met : before.met ≡ rank true r (drop (length parts - i) parts)
  pub unmet : before.unmet ≡ rank false r (drop (length parts - i) parts)

pub none_ranked : (r : ℕ) (parts : List ℕ) → Ranked r parts (record { met = 1; unmet = 0 }) (record { met = 0; unmet = 0 }) 0
unfolding rank
none_ranked r parts =
    let e : drop (length parts - 0) parts ≡ [] = drop_of_length-le parts {i = length parts - 0} (omega arith) in
    record { within = omega arith; counted = none_ways r; met = rw e; unmet = rw e }

-- r is the largest of them, and its tuples have words for their numbers
pub record Layer (r : ℕ) (parts : List ℕ) : Type 0 where
  pub fits : (r + 1) ^ length parts < 2 ^ 63
  pub is_largest : r ≡ largest parts

module _ {r : ℕ} {parts : List ℕ} (g : Layer r parts) where
  rank_fits : (met : Bool) (i : ℕ) → i ≤ length parts → rank met r (drop (length parts - i) parts) < 2 ^ 63
  rank_fits met i k =
      let ys = drop (length parts - i) parts in
      let f = full_up r ys (omega (arith, g.is_largest, drop_low (length parts - i) parts)) in
      omega (arith, rank_low met r ys, rank_below true r ys f, ways_fits (length parts) r g.fits true (length ys) (omega (arith, last_long parts i k)))

  module _ {w before : Ways} {i : ℕ} (s : Ranked r parts w before i) where
    pub lower : w.unmet ≤ w.met
    lower = omega (arith, s.counted.met, s.counted.unmet, ways_low false r i)

    pub sum_fits : w.met - w.unmet + before.unmet < 2 ^ 64
    sum_fits = omega (arith, s.counted.met, s.unmet, ways_fits (length parts) r g.fits true i s.within, rank_fits false i s.within)

    pub all_ranked : length parts ≤ i → w.met - w.unmet + before.unmet ≡ join parts
    unfolding join
    all_ranked k =
        let e : i ≡ length parts = omega (arith, s.within) in
        let z : length parts - i ≡ 0 = omega arith in
        let p : before.unmet ≡ rank false r parts = rw z at s.unmet in
        rw (← g.is_largest) (omega (arith, ways_met r (length parts), ways_layer r (length parts), rw e at s.counted.met, rw e at s.counted.unmet))

    -- one more, x
    module _ (k : i < length parts) {x : ℕ} (at : x ≡ get_or parts (length parts - 1 - i) 0) where
      -- those behind it, and they with it
      abbrev ys : List ℕ
      ys = drop (length parts - i) parts

      abbrev xs : List ℕ
      xs = drop (length parts - (i + 1)) parts

      long : length ys ≡ i
      long = last_long parts i s.within

      x_low : x ≤ r
      x_low = omega (arith, at, g.is_largest, at_most parts (length parts - 1 - i))

      more : (met : Bool) → rank met r xs ≡ rank met r (x ∷ ys)
      more met = rw at (ap (rank met r) (last_more parts i k))

      met_is : x * w.met + before.met ≡ rank true r xs
      unfolding rank
      met_is =
          rw (more true, long, ← s.counted.met, ← s.met)
          (pick_by (λ n. x * w.met + before.met ≡ n) (ltb x r) (λ e. refl) (λ e. ap (λ n. n * w.met + before.met) (omega (arith, x_low, ltb-false x r e))))

      pub lower_is : x < r → x * w.unmet + before.unmet ≡ rank false r xs
      unfolding rank
      lower_is h = rw (more false, long, ← s.counted.unmet, ← s.unmet, ← s.met, lt-ltb x r h)

      pub at_is : r ≤ x → r * w.unmet + before.met ≡ rank false r xs
      unfolding rank
      at_is h = rw (more false, long, ← s.counted.unmet, ← s.unmet, ← s.met, le-ltb x r h)

      pub met_fits : x * w.met + before.met < 2 ^ 63
      met_fits = omega (arith, met_is, rank_fits true (i + 1) (omega arith))

      pub lower_fits : x < r → x * w.unmet + before.unmet < 2 ^ 63
      lower_fits h = omega (arith, lower_is h, rank_fits false (i + 1) (omega arith))

      pub at_fits : r ≤ x → r * w.unmet + before.met < 2 ^ 63
      at_fits h = omega (arith, at_is h, rank_fits false (i + 1) (omega arith))

      pub ranked : {u : ℕ} {next : Ways} → u ≡ rank false r xs → (next.met ≡ r * w.met + w.met) × (next.unmet ≡ r * w.unmet + w.met)
          → Ranked r parts next (record { met = x * w.met + before.met; unmet = u }) (i + 1)
      ranked e n = record { within = omega arith; counted = both_next (length parts) r g.fits i s.counted n; met = met_is; unmet = e }
