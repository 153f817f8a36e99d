-- The ways as the code makes them.
--   ways_low             having met r there are more ways
--   ways_fits            they are words, where the power of r + 1 is one
--   AreWays, none_ways   the ways of a count of parts, and of none
--   next_fits, next_is   from the ways of m to those of one more; both_fit, both_next   both
--   Weighed              the ways of the counts so far
--   one_weighed   one more
--   weight_is            what is read from them
-- Assumes nothing.
use mathlib.Core.Path.{◌≡◌, refl, ◌∙◌}
use mathlib.Core.Bool.{Bool, true, false}
use mathlib.Core.List.{List}
use Prim.Native.Nat.{ℕ, ◌+◌, ◌*◌, ◌^◌, ◌≤◌, ◌<◌}
use native.Mathlib.Nat.{pow-le-pow_right}
use native.Mathlib.Numerals.{add-one}
use native.Mathlib.Omega.{arith}
use lib.Dec.{eqb}
use lib.ListN.{length, get_or, set}
use lib.Seq.{get_or-set_same, get_or-set_other}
use borrow.Author.Tests.{eqb-true, eqb-false}
use Rattle.numbers.specs.Tuple.{ways}
use Rattle.numbers.specs.Weights.{Weights, weight, nowhere}
use Rattle.numbers.specs.declared.tuple.Ways.{Ways}
use Rattle.numbers.proofs.tuple.Places.{ways_met, ways_layer}

pub ways_low : (met : Bool) (r m : ℕ) → ways met r m ≤ ways true r m
ways_low true r m = omega arith
ways_low false r m = omega (arith, ways_met r m, ways_layer r m)

pub record AreWays (r m : ℕ) (w : Ways) : Type 0 where
  pub met : w.met ≡ ways true r m
  pub unmet : w.unmet ≡ ways false r m

pub none_ways : (r : ℕ) → AreWays r 0 (record { met = 1; unmet = 0 })
unfolding ways
none_ways r = record { met = refl; unmet = refl }

module _ (t r : ℕ) (h : (r + 1) ^ t < 2 ^ 63) where
  pub ways_fits : (met : Bool) (m : ℕ) → m ≤ t → ways met r m < 2 ^ 63
  ways_fits met m l = omega (arith, ways_low met r m, ways_met r m, pow-le-pow_right {n = r + 1} (omega arith) {i = m} {j = t} l)

  module _ (met : Bool) (m : ℕ) {w a : ℕ} (e : w ≡ ways met r m) (k : a ≡ ways true r m) where
    pub next_is : r * w + a ≡ ways met r (m + 1)
    unfolding ways
    next_is = rw (add-one m, e, k)

    pub next_fits : m < t → r * w + a < 2 ^ 63
    next_fits l = omega (arith, next_is, ways_fits met (m + 1) (omega arith))

  module _ (m : ℕ) {w : Ways} (k : AreWays r m w) where
    pub both_fit : m < t → (r * w.met + w.met < 2 ^ 64) × (r * w.unmet + w.met < 2 ^ 64)
    both_fit l = (omega (arith, next_fits true m k.met k.met l), omega (arith, next_fits false m k.unmet k.met l))

    pub both_next : {v : Ways} → (v.met ≡ r * w.met + w.met) × (v.unmet ≡ r * w.unmet + w.met) → AreWays r (m + 1) v
    both_next e = record { met = e.0 ∙ next_is true m k.met k.met; unmet = e.1 ∙ next_is false m k.unmet k.met }

-- ---- those of the counts below m
abbrev pub Weighed : ℕ → List Ways → ℕ → Type 0
Weighed r all m = (i : ℕ) → i < m → AreWays r i (get_or all i nowhere)

pub one_weighed : {r m : ℕ} (all : List Ways) {w : Ways} → Weighed r all m → m < length all → AreWays r m w → Weighed r (set all m w) (m + 1)
one_weighed {r} {m} all {w} s l k i b = by (eqb i m) refl
  where
    by : (q : Bool) → eqb i m ≡ q → AreWays r i (get_or (set all m w) i nowhere)
    by true x = let z = eqb-true i m x in rw (z, get_or-set_same all m w nowhere l) k
    by false x =
        let z = eqb-false i m x in
        rw (get_or-set_other all m i w nowhere z) (s i (omega (arith, z)))

pub weight_is : {r : ℕ} (all : List Ways) (s : Weights r all) (seen : Bool) (m : ℕ) → m < length all → weight (get_or all m nowhere) seen ≡ ways seen r m
weight_is all s true m l = s.ways_met m l
weight_is all s false m l = s.ways_unmet m l
