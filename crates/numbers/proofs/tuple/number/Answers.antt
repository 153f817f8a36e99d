use mathlib.Core.Path.{◌≡◌, ◌∙◌}
use mathlib.Core.Bool.{false}
use mathlib.Core.List.{List, reverse}
use Prim.Native.Nat.{ℕ, ◌+◌, ◌-◌, ◌≤◌, ◌<◌}
use native.Mathlib.Omega.{arith}
use lib.ListN.{length, get_or, drop}
use Rattle.std.proofs.lemmas.List.{get_or-reverse, length-reverse, length_push}
use Rattle.std.proofs.lemmas.Grind.{get_or_default_zero}
use Rattle.std.proofs.lemmas.Iterator.Adapters.{YieldsList-from_rev_slice}
use Rattle.std.proofs.lemmas.Iterator.Consumers.{YieldsList-turn, YieldsList-end}
use Rattle.numbers.specs.Tuple.{rank}
use Rattle.numbers.proofs.tuple.Weighing.{both_fit}
use Rattle.numbers.proofs.tuple.Ranking.{Layer, none_ranked, ranked, all_ranked, lower, sum_fits, met_fits, lower_is, lower_fits, at_is, at_fits}
use Rattle.numbers.proofs.tuple.number.Goals.{In-Some, In-None, then-x-r, else-x-r}
use Rattle.numbers.proofs.tuple.number.Goals as goal

-- the next of the parts, from the last one on
turned : (parts : List ℕ) (i x : ℕ) → (i < length (reverse parts)) × (x ≡ get_or (reverse parts) i x)
    → (i < length parts) × (x ≡ get_or parts (length parts - 1 - i) 0)
turned parts i x h =
    let l : i < length parts = rw length-reverse at h.0 in
    (l, h.1 ∙ get_or-reverse parts i x l ∙ get_or_default_zero parts (length parts - 1 - i) x (omega arith))

here : (c : In-Some) → (length c.loop-x.yielded < length c.args.parts.now)
    × (c.in-Some.x.now ≡ get_or c.args.parts.now (length c.args.parts.now - 1 - length c.loop-x.yielded) 0)
here c =
    let road = YieldsList-from_rev_slice c.args.parts.now cc in
    turned _ _ _ (YieldsList-turn road c.loop-x.yielded _ c.loop-x.yielded_by _ _ c.in-Some.x c.in-Some.is c.next.ensures.steps)

layer : (c : In-Some) → Layer c.args.r c.args.parts.now
layer c = record { fits = c.requires.0; is_largest = c.requires.1 }

pub loop-x-init : goal.loop-x-init
loop-x-init c =
    none_ranked _ _

pub overflow_mul-unmet : goal.overflow_mul-unmet
overflow_mul-unmet c =
    let d = (goal.at.overflow_mul-unmet c).In-Some in
    omega (arith, lower_fits (layer d) c.loop-x.invariant (here d).0 (here d).1 c.if-x-r.true)

pub overflow_add-unmet : goal.overflow_add-unmet
overflow_add-unmet c =
    let d = (goal.at.overflow_add-unmet c).In-Some in
    omega (arith, lower_fits (layer d) c.loop-x.invariant (here d).0 (here d).1 c.if-x-r.true)

pub overflow_mul-unmet-else-x-r : goal.overflow_mul-unmet-else-x-r
overflow_mul-unmet-else-x-r c =
    let d = (goal.at.overflow_mul-unmet-else-x-r c).In-Some in
    omega (arith, at_fits (layer d) c.loop-x.invariant (here d).0 (here d).1 c.if-x-r.false)

pub overflow_add-unmet-else-x-r : goal.overflow_add-unmet-else-x-r
overflow_add-unmet-else-x-r c =
    let d = (goal.at.overflow_add-unmet-else-x-r c).In-Some in
    omega (arith, at_fits (layer d) c.loop-x.invariant (here d).0 (here d).1 c.if-x-r.false)

pub overflow_mul-before : goal.overflow_mul-before
overflow_mul-before c =
    let d = (goal.at.overflow_mul-before c).In-Some in
    omega (arith, met_fits (layer d) c.loop-x.invariant (here d).0 (here d).1)

pub overflow_add-before : goal.overflow_add-before
overflow_add-before c =
    let d = (goal.at.overflow_add-before c).In-Some in
    omega (arith, met_fits (layer d) c.loop-x.invariant (here d).0 (here d).1)

pub and_one-ways-requires : goal.and_one-ways-requires
and_one-ways-requires c =
    let d = (goal.at.and_one-ways-requires c).In-Some in
    both_fit _ _ c.requires.0 _ c.loop-x.invariant.counted (here d).0

pub loop-x-preserved : goal.loop-x-preserved
loop-x-preserved c =
    let d = (goal.at.loop-x-preserved c).In-Some in
    let s = c.loop-x.invariant in
    let u : c.if-x-r.unmet ≡ rank false c.args.r (drop (length c.args.parts.now - (length c.loop-x.yielded + 1)) c.args.parts.now) = elim c.if-x-r.branch [
      | then-x-r w ↦ w.unmet-is ∙ lower_is (layer d) s (here d).0 (here d).1 w.if-x-r.true
      | else-x-r w ↦ w.unmet-is ∙ at_is (layer d) s (here d).0 (here d).1 w.if-x-r.false
    ] in
    rw length_push (ranked (layer d) s (here d).0 (here d).1 u c.and_one-ways.ensures)

all : (c : In-None) → length c.args.parts.now ≤ length c.loop-x.yielded
all c =
    let e = YieldsList-end (YieldsList-from_rev_slice c.args.parts.now cc) c.loop-x.yielded _ c.loop-x.yielded_by _ _ c.in-None.is c.next.ensures.steps in
    omega (arith, length-reverse c.args.parts.now, e.1)

pub overflow_sub-result : goal.overflow_sub-result
overflow_sub-result c =
    lower (record { fits = c.requires.0; is_largest = c.requires.1 }) c.loop-x.invariant

pub overflow_add-result : goal.overflow_add-result
overflow_add-result c =
    omega (arith, sum_fits (record { fits = c.requires.0; is_largest = c.requires.1 }) c.loop-x.invariant)

pub returns : goal.returns
returns c =
    all_ranked (record { fits = c.requires.0; is_largest = c.requires.1 }) c.loop-x.invariant (all (goal.at.returns c).In-None)
