-- `numbers::root::step_above` is the root or more, from any guess.
-- Assumes nothing.
use mathlib.Core.Path.{◌≡◌, refl}
use mathlib.Core.Bool.{Bool, true, false}
use Prim.Native.Nat.{ℕ, ◌+◌, ◌*◌, ◌-◌, ◌^◌, ◌<◌, min}
use native.Mathlib.Omega.{arith}
use lib.Dec.{ltb}
use borrow.Author.Tests.{ltb-true, ltb-false}
use Rattle.numbers.specs.Root.{Above}
use Rattle.numbers.proofs.root.Newton.{step_above_lem}
use Rattle.numbers.proofs.root.step_above.Goals as goal

-- a word's root is at most 2^32 - 1
most : (n r : ℕ) → n < 2 ^ 64 → n < (r + 1) * (r + 1) → Above n (min r (2 ^ 32 - 1))
most n r w h = by (ltb r (2 ^ 32)) refl
  where
    by : (q : Bool) → ltb r (2 ^ 32) ≡ q → Above n (min r (2 ^ 32 - 1))
    by true e = let l = ltb-true r (2 ^ 32) e in let m : min r (2 ^ 32 - 1) ≡ r = omega arith in rw m (record { above = h; word = l })
    by false e =
        let l = ltb-false r (2 ^ 32) e in
        let m : min r (2 ^ 32 - 1) ≡ 2 ^ 32 - 1 = omega arith in
        rw m (record { above = omega arith; word = omega arith })

pub returns : goal.returns
returns c =
    rw c.min.ensures (most _ _ c.ranges.n.fits (step_above_lem _ _ (omega arith)))
