use native.Mathlib.Omega.{arith}
use Rattle.numbers.proofs.tuple.Weighing.{none_ways, both_fit, both_next, one_weighed}
use Rattle.numbers.proofs.tuple.weigh.Goals as goal

pub loop-w-init : goal.loop-w-init
loop-w-init c =
    (none_ways _, λ i l. absurd (omega arith))

pub and_one-next-requires : goal.and_one-next-requires
and_one-next-requires c =
    both_fit _ _ c.requires _ c.loop-w.invariant.0 (omega arith)

pub loop-w-preserved : goal.loop-w-preserved
loop-w-preserved c =
    let i = c.loop-w.invariant in
    (both_next _ _ c.requires _ i.0 c.and_one-next.ensures, one_weighed _ i.1 (omega arith) i.0)
