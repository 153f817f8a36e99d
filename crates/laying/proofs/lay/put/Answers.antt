-- `laying::lay::put` is one cell over the buffer's front.
-- Assumes nothing.
use native.Mathlib.Omega.{arith}
use lib.ListN.{length-set}
use Rattle.laying.proofs.Lays.{laid_none, laid_one}
use Rattle.laying.proofs.lay.put.Goals as goal

pub returns-then-out-eq0 : goal.returns-then-out-eq0
returns-then-out-eq0 c =
    rw c.stopped.ensures (laid_none _ _ c.if-out-eq0.true)

pub bounds-out-0 : goal.bounds-out-0
bounds-out-0 c =
    omega (arith, c.if-out-eq0.false)

pub overflow_sub-out : goal.overflow_sub-out
overflow_sub-out c =
    simp length-set (omega (arith, c.if-out-eq0.false))

pub returns : goal.returns
returns c =
    rw c.left.ensures (laid_one _ _ c.if-out-eq0.false c.requires)
