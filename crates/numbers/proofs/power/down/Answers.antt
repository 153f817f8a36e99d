use native.Mathlib.Omega.{arith}
use Rattle.numbers.proofs.power.Powers.{pow_le}
use Rattle.numbers.proofs.power.Near.{some, ends_here}
use Rattle.numbers.proofs.power.down.Goals as goal

pub power-requires : goal.power-requires
power-requires c =
    (c.requires.1, omega (arith, c.requires.2, pow_le c.args.t c.loop-r.invariant.0))

pub overflow_sub-r : goal.overflow_sub-r
overflow_sub-r c =
    some _ c.requires.0 c.power.ensures c.loop-r-test.true

pub loop-r-smaller : goal.loop-r-smaller
loop-r-smaller c =
    omega (arith, some _ c.requires.0 c.power.ensures c.loop-r-test.true)

pub returns-clause-root : goal.returns-clause-root
returns-clause-root c =
    λ h. ends_here _ c.requires.0 c.power.ensures c.loop-r-test.false (c.loop-r.invariant.1 h)
