use native.Mathlib.Omega.{arith}
use Rattle.numbers.proofs.power.Near.{ends_before, least, next_fits, next_word}
use Rattle.numbers.proofs.power.up.Goals as goal

pub overflow_add-r : goal.overflow_add-r
overflow_add-r c =
    omega (arith, next_word _ _ c.requires.0 _ c.loop-r.invariant c.requires.3)

pub power-requires : goal.power-requires
power-requires c =
    (c.requires.1, next_fits _ _ c.requires.0 _ c.loop-r.invariant c.requires.3)

pub overflow_add-r-in-loop-r : goal.overflow_add-r-in-loop-r
overflow_add-r-in-loop-r c =
    omega (arith, next_word _ _ c.requires.0 _ c.loop-r.invariant c.requires.3)

-- so is the next number, where its power is within n
pub loop-r-smaller : goal.loop-r-smaller
loop-r-smaller c =
    omega (arith, least _ _ c.requires.0 _ (rw c.power.ensures at c.loop-r-test.true))

pub returns : goal.returns
returns c = ends_before _ c.requires.0 c.power.ensures c.loop-r.invariant c.loop-r-test.false
