-- `numbers::power::most` is the root of the limit, computed for each count.
-- Assumes nothing.
use mathlib.Core.Path.{◌≡◌, refl}
use Prim.Native.Nat.{ℕ}
use native.Mathlib.Omega.{arith}
use Rattle.numbers.specs.Joined.{limit}
use Rattle.numbers.specs.Power.{root_by, root_of}
use Rattle.numbers.proofs.power.most.Goals as goal

arm : (k r : ℕ) {t : ℕ} → r ≡ root_of k limit → t ≡ k → r ≡ root_of t limit
arm k r h e = rw e h

third : 1664510 ≡ root_of 3 limit
unfolding root_of root_by
third = refl

fourth : 46340 ≡ root_of 4 limit
unfolding root_of root_by
fourth = refl

fifth : 5404 ≡ root_of 5 limit
unfolding root_of root_by
fifth = refl

sixth : 1290 ≡ root_of 6 limit
unfolding root_of root_by
sixth = refl

seventh : 463 ≡ root_of 7 limit
unfolding root_of root_by
seventh = refl

eighth : 215 ≡ root_of 8 limit
unfolding root_of root_by
eighth = refl

pub returns-in-3 : goal.returns-in-3
returns-in-3 c =
    arm 3 _ third c.in-3.is

pub returns-in-4 : goal.returns-in-4
returns-in-4 c =
    arm 4 _ fourth c.in-4.is

pub returns-in-5 : goal.returns-in-5
returns-in-5 c =
    arm 5 _ fifth c.in-5.is

pub returns-in-6 : goal.returns-in-6
returns-in-6 c =
    arm 6 _ sixth c.in-6.is

pub returns-in-7 : goal.returns-in-7
returns-in-7 c =
    arm 7 _ seventh c.in-7.is

pub returns-in_default : goal.returns-in_default
returns-in_default c =
    arm 8 _ eighth (omega arith)
