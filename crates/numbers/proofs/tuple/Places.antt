-- Lists of part numbers up to r that have r, in dictionary order, by their places. Once r has been met, of all lists up to r.
--   ways_met, ways_layer   how many there are
--   Full met r ms          ms is such a list
--   times_more, some_ways  blocks of w, one for each first number below r: a larger number has one whole block more, and no block is empty
--   tail_full, tail_long   the list at a place is one, of the length asked for
--   rank_below             the place of one is below their count
--   rank_tail, tail_rank   list and place are each other's
--   full_up                a list of numbers up to r is one, once r has been met
--   full_most, most_full   r is the largest part number
-- Assumes nothing.
use mathlib.Core.Path.{◌≡◌, refl, sym, ap}
use mathlib.Core.Bool.{Bool, true, false}
use mathlib.Core.Logic.{◌⊎◌, inl, inr}
use mathlib.Core.List.{List, [], ◌∷◌}
use Prim.Native.Nat.{ℕ, zero, suc, ◌+◌, ◌*◌, ◌-◌, ◌/◌, ◌%◌, ◌^◌, ◌≤◌, ◌<◌, max}
use native.Mathlib.Nat.{mul-le-mul, le_refl, pow-suc, pow-zero, not-suc-le-zero, mod-lt, div-add-mod', div-lt_iff_lt-mul}
use native.Mathlib.Omega.{arith}
use lib.Arith.{digits_div, digits_mod}
use lib.Dec.{ltb}
use lib.ListN.{length}
use borrow.Author.Tests.{ltb-true, ltb-false, lt-ltb, le-ltb}
use Rattle.numbers.specs.Tuple.{largest, ways, tail, rank}
use Rattle.numbers.proofs.Tests.{pick_by}

-- ---- how many there are
pub ways_met : (r m : ℕ) → ways true r m ≡ (r + 1) ^ m
unfolding ways
ways_met r zero = sym (pow-zero (r + 1))
ways_met r (suc m) = rw (pow-suc (r + 1) m, ← ways_met r m) (omega arith)

pub ways_layer : (r m : ℕ) → ways false r m + r ^ m ≡ (r + 1) ^ m
unfolding ways
ways_layer r zero = rw (pow-zero r, pow-zero (r + 1))
ways_layer r (suc m) = rw (pow-suc r m, pow-suc (r + 1) m, ways_met r m, ← ways_layer r m) (omega (arith, ways_layer r m))

-- ---- lists of part numbers up to r that have r, unless it has been met
abbrev pub Full : Bool → ℕ → List ℕ → Type 0
Full true r [] = Unit {0}
Full false r [] = ⊥
Full met r (x ∷ xs) = ((x < r) × Full met r xs) ⊎ ((x ≡ r) × Full true r xs)

-- ---- from a place to the list and back
pub times_more : {x y : ℕ} (w : ℕ) → x < y → x * w + w ≤ y * w
times_more {x} {y} w l = omega (arith, mul-le-mul {n₁ = x + 1} {m₁ = w} {n₂ = y} {m₂ = w} (omega arith) (le_refl w))

pub some_ways : (d r w : ℕ) → d < r * w → 0 < w
some_ways d r zero h = absurd (omega (arith, h))
some_ways d r (suc w) h = omega arith

below : (d r w : ℕ) → d < r * w → d / w < r
below d r w h = (div-lt_iff_lt-mul {k = w} {x = d} {y = r} (some_ways d r w h)).1 h

pub tail_full : (met : Bool) (r m d : ℕ) → d < ways met r m → Full met r (tail met r m d)
unfolding ways tail
tail_full true r zero d h = tt
tail_full false r zero d h = not-suc-le-zero h
tail_full met r (suc m) d h =
    let w = ways met r m in
    pick_by (Full met r) (ltb d (r * w))
    (λ e.
    let l = ltb-true d (r * w) e in
    inl (below d r w l, tail_full met r m (d % w) (mod-lt d (some_ways d r w l))))
    (λ e. inr (refl, tail_full true r m (d - r * w) (omega (arith, ltb-false d (r * w) e))))

pub tail_long : (met : Bool) (r m d : ℕ) → length (tail met r m d) ≡ m
unfolding tail
tail_long met r zero d = refl
tail_long met r (suc m) d =
    pick_by (λ (xs : List ℕ). length xs ≡ suc m) (ltb d (r * ways met r m))
    (λ e. ap suc (tail_long met r m _))
    (λ e. ap suc (tail_long true r m _))

pub rank_tail : (met : Bool) (r m d : ℕ) → d < ways met r m → rank met r (tail met r m d) ≡ d
unfolding ways tail rank
rank_tail true r zero d h = omega arith
rank_tail false r zero d h = absurd (not-suc-le-zero h)
rank_tail met r (suc m) d h =
    let w = ways met r m in
    pick_by (λ (xs : List ℕ). rank met r xs ≡ d) (ltb d (r * w))
    (λ e.
    let l = ltb-true d (r * w) e in
    rw (lt-ltb (d / w) r (below d r w l), tail_long met r m (d % w), rank_tail met r m (d % w) (mod-lt d (some_ways d r w l)))
    (div-add-mod' d w))
    (λ e.
    let l = ltb-false d (r * w) e in
    rw (le-ltb r r (le_refl r), tail_long true r m (d - r * w), rank_tail true r m (d - r * w) (omega arith)) (omega arith))

-- a place in the list of those that start lower, and in that of those that start with r
pub rank_below : (met : Bool) (r : ℕ) (xs : List ℕ) → Full met r xs → rank met r xs < ways met r (length xs)
unfolding rank ways
rank_below true r [] f = le_refl 1
rank_below false r [] f = absurd f
rank_below met r (x ∷ xs) (inl (l, f)) =
    rw (lt-ltb x r l) (omega (arith, rank_below met r xs f, times_more (ways met r (length xs)) l))
rank_below met r (x ∷ xs) (inr (e, f)) = rw (le-ltb x r (omega arith)) (omega (arith, rank_below true r xs f))

pub tail_rank : (met : Bool) (r : ℕ) (xs : List ℕ) → Full met r xs → tail met r (length xs) (rank met r xs) ≡ xs
unfolding tail rank
tail_rank true r [] f = refl
tail_rank false r [] f = absurd f
tail_rank met r (x ∷ xs) (inl (l, f)) =
    let w = ways met r (length xs) in
    let k = rank_below met r xs f in
    let b = lt-ltb (x * w + rank met r xs) (r * w) (omega (arith, times_more w l)) in
    rw (lt-ltb x r l, b, digits_div x k, digits_mod x k, tail_rank met r xs f)
tail_rank met r (x ∷ xs) (inr (e, f)) =
    let w = ways met r (length xs) in
    let k : r * w + rank true r xs - r * w ≡ rank true r xs = omega arith in
    rw (le-ltb x r (omega arith), le-ltb (r * w + rank true r xs) (r * w) (omega arith), k, tail_rank true r xs f, e)

-- ---- the largest
pub full_up : (r : ℕ) (xs : List ℕ) → largest xs ≤ r → Full true r xs
unfolding largest
full_up r [] h = tt
full_up r (x ∷ xs) h = by (ltb x r) refl (full_up r xs (omega arith))
  where
    by : (q : Bool) → ltb x r ≡ q → Full true r xs → Full true r (x ∷ xs)
    by true e f = inl (ltb-true x r e, f)
    by false e f = inr (omega (arith, ltb-false x r e), f)

full_more : (x r : ℕ) (xs : List ℕ) → largest xs ≤ r → Full false r xs → Full false (max x r) (x ∷ xs)
full_more x r xs h f = by (ltb x r) refl
  where
    by : (q : Bool) → ltb x r ≡ q → Full false (max x r) (x ∷ xs)
    by true e =
        let l = ltb-true x r e in
        let m : max x r ≡ r = omega arith in
        rw m (inl (l, f))
    by false e =
        let l = ltb-false x r e in
        let m : max x r ≡ x = omega arith in
        rw m (inr (refl, full_up x xs (omega arith)))

pub full_most : (x : ℕ) (xs : List ℕ) → Full false (largest (x ∷ xs)) (x ∷ xs)
unfolding largest
full_most x [] = inr (omega arith, tt)
full_most x (y ∷ ys) = full_more x (largest (y ∷ ys)) (y ∷ ys) (le_refl _) (full_most y ys)

low_most : (r : ℕ) (xs : List ℕ) → Full true r xs → largest xs ≤ r
unfolding largest
low_most r [] f = omega arith
low_most r (x ∷ xs) (inl (l, f)) = omega (arith, low_most r xs f)
low_most r (x ∷ xs) (inr (e, f)) = omega (arith, low_most r xs f)

pub most_full : (r : ℕ) (xs : List ℕ) → Full false r xs → largest xs ≡ r
unfolding largest
most_full r [] f = absurd f
most_full r (x ∷ xs) (inl (l, f)) = omega (arith, most_full r xs f)
most_full r (x ∷ xs) (inr (e, f)) = omega (arith, low_most r xs f)
