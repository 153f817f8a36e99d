-- `numbers::tuple::split` is the tuple of a number.
-- Assumes nothing.
use mathlib.Core.Path.{◌≡◌, ◌∙◌}
use mathlib.Core.Bool.{false}
use mathlib.Core.List.{List}
use Prim.Native.Nat.{ℕ, zero, suc, ◌+◌, ◌*◌, ◌-◌, ◌^◌, ◌≤◌, ◌<◌}
use native.Mathlib.Nat.{pow-suc}
use native.Mathlib.Omega.{arith}
use lib.ListN.{length, get_or}
use lib.Seq.{length-take-le}
use Rattle.numbers.specs.Joined.{limit}
use Rattle.numbers.specs.Power.{root_of}
use Rattle.numbers.specs.Tuple.{tail, split}
use Rattle.numbers.specs.Weights.{Weights, nowhere}
use Rattle.numbers.specs.declared.tuple.Ways.{Ways}
use Rattle.numbers.proofs.power.Powers.{root_is}
use Rattle.numbers.proofs.power.Largest.{in_range, fits}
use Rattle.numbers.proofs.tuple.Places.{ways_met, ways_layer}
use Rattle.numbers.proofs.tuple.split.Goals as goal

own_power : (t r : ℕ) → 0 < t → r * r ^ (t - 1) ≡ r ^ t
own_power zero r p = absurd (omega arith)
own_power (suc m) r p = let e : suc m - 1 ≡ m = omega arith in rw (e, pow-suc r m) (omega arith)

record Rooted (t n r : ℕ) : Type 0 where
  least : 3 ≤ t
  few : t ≤ 8
  small : n ≤ limit
  is_root : r ≡ root_of t n

module _ {t n r : ℕ} (g : Rooted t n r) where
  within : r ^ t ≤ n
  within = rw g.is_root (root_is t n (omega arith)).within

  word : {m : ℕ} → m ≡ t → (r + 1) ^ m < 2 ^ 63
  word e = rw e (fits t g.least g.few r (in_range t g.least g.few n r g.small within))

  module _ (all : List Ways) (s : Weights r all) (e : length all ≡ t) where
    abbrev last : Ways
    last = get_or all (t - 1) nowhere

    apart : last.met ≡ last.unmet + r ^ (t - 1)
    apart =
        let m = t - 1 in
        let low : m < length all = omega (arith, g.least) in
        omega (arith, s.ways_met m low, s.ways_unmet m low, ways_met r m, ways_layer r m)

    lower : r * (last.met - last.unmet) ≡ r ^ t
    lower =
        let d : last.met - last.unmet ≡ r ^ (t - 1) = omega (arith, apart) in
        rw d (own_power t r (omega (arith, g.least)))

    splits : {parts : List ℕ} → parts ≡ tail false r t (n - r * (last.met - last.unmet)) → parts ≡ split t n
    unfolding split
    splits front = rw (lower, g.is_root) at front

rooted : {t n r : ℕ} → (3 ≤ t) × (t ≤ 8) × (n ≤ limit) → r ≡ root_of t n → Rooted t n r
rooted h e = record { least = h.0; few = h.1; small = h.2; is_root = e }

pub weigh-requires : goal.weigh-requires
weigh-requires c =
    word (rooted c.requires c.root-r.ensures) (length-take-le _ _ c.requires.1)

pub overflow_sub-lower : goal.overflow_sub-lower
overflow_sub-lower c =
    let e = c.weigh.auto.ways ∙ length-take-le _ _ c.requires.1 in
    omega (arith, apart (rooted c.requires c.root-r.ensures) _ c.weigh.ensures e)

pub overflow_mul-lower : goal.overflow_mul-lower
overflow_mul-lower c =
    let g = rooted c.requires c.root-r.ensures in
    let e = c.weigh.auto.ways ∙ length-take-le _ _ c.requires.1 in
    omega (arith, lower g _ c.weigh.ensures e, within g, g.small)

pub overflow_sub-n : goal.overflow_sub-n
overflow_sub-n c =
    let g = rooted c.requires c.root-r.ensures in
    let e = c.weigh.auto.ways ∙ length-take-le _ _ c.requires.1 in
    omega (arith, lower g _ c.weigh.ensures e, within g)

pub spread-requires-clause-fits : goal.spread-requires-clause-fits
spread-requires-clause-fits c =
    word (rooted c.requires c.root-r.ensures) (c.weigh.auto.ways ∙ length-take-le _ _ c.requires.1)

pub returns : goal.returns
returns c =
    splits (rooted c.requires c.root-r.ensures) _ c.weigh.ensures (c.weigh.auto.ways ∙ length-take-le _ _ c.requires.1) c.spread.ensures
