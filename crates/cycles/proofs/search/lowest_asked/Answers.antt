use native.Mathlib.Omega.{arith}
use Rattle.cycles.proofs.Table.{passed_none, passed_kind, passed_cycle, lowest_found, lowest_none}
use Rattle.cycles.proofs.search.lowest_asked.Goals as goal
use Rattle.cycles.proofs.search.lowest_asked.Goals.{then-asked+else-comes_back, else-asked}

pub loop-n-init : goal.loop-n-init
loop-n-init c =
    passed_none

pub returns-then-comes_back : goal.returns-then-comes_back
returns-then-comes_back c =
    lowest_found _ c.count-n-end.ensures.ready _ c.asked.ensures c.loop-n.invariant (omega arith) c.if-asked.true c.comes_back.ensures c.if-comes_back.true

pub loop-n-preserved : goal.loop-n-preserved
loop-n-preserved c =
    let r = c.count-n-end.ensures.ready in
    let i = c.loop-n.invariant in
    let a = c.asked.ensures in
    elim c.if-asked.branch [
      | then-asked+else-comes_back w ↦ passed_cycle _ r _ a i (omega arith) w.comes_back.ensures w.if-comes_back.false
      | else-asked w ↦ passed_kind _ r _ a i (omega arith) w.if-asked.false
    ]

pub returns : goal.returns
returns c =
    lowest_none c.count-n-end.ensures.ready c.loop-n.invariant (omega arith)
