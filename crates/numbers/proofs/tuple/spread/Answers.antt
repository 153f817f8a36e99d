use mathlib.Core.Path.{◌≡◌, refl, ◌∙◌}
use mathlib.Core.Bool.{Bool}
use mathlib.Core.List.{List}
use Prim.Native.Nat.{ℕ, ◌+◌, ◌*◌, ◌-◌, ◌^◌, ◌<◌}
use native.Mathlib.Omega.{arith}
use lib.ListN.{length, get_or}
use Rattle.numbers.specs.Weights.{Weights, weight, nowhere}
use Rattle.numbers.specs.Tuple.{ways}
use Rattle.numbers.specs.declared.tuple.Ways.{Ways}
use Rattle.numbers.proofs.tuple.Weighing.{weight_is, next_fits}
use Rattle.numbers.proofs.tuple.Spreading.{lower_spread, at_spread, all_spread}
use Rattle.numbers.proofs.tuple.spread.Goals.{then-left-r, else-left-r}
use Rattle.numbers.proofs.tuple.spread.Goals as goal

-- the weight that is read is that of the parts behind
module _ {t r j w : ℕ} (seen : Bool) (all : List Ways) (s : Weights r all) (l : t ≡ length all) (k : j < t)
    (e : w ≡ weight (get_or all (length all - 1 - j) nowhere) seen) where
  weighs : w ≡ ways seen r (t - 1 - j)
  weighs = rw l (e ∙ weight_is all s seen _ (omega arith))

  fits : (r + 1) ^ length all < 2 ^ 63 → r * w < 2 ^ 63
  fits h = omega (arith, next_fits (length all) _ h seen (t - 1 - j) weighs refl (omega arith))

pub overflow_mul-r : goal.overflow_mul-r
overflow_mul-r c =
    omega (arith, fits _ _ c.requires.weights c.requires.long c.loop-j-test.true c.weight-w.ensures c.requires.fits)

pub loop-j-preserved : goal.loop-j-preserved
loop-j-preserved c =
    let s = c.loop-j.invariant in
    let k = c.loop-j-test.true in
    let e = weighs _ _ c.requires.weights c.requires.long k c.weight-w.ensures in
    elim c.if-left-r.branch [
      | then-left-r w ↦ lower_spread s k e w.if-left-r.true w.parts-is w.left-is w.seen-is
      | else-left-r w ↦ at_spread s k e w.if-left-r.false w.parts-is w.left-is w.seen-is
    ]

pub returns : goal.returns
returns c =
    all_spread c.loop-j.invariant c.loop-j-test.false
