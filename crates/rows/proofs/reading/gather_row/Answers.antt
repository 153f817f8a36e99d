use Rattle.std.proofs.lemmas.Result.{err_from_is_err_and}
use Rattle.rows.proofs.Outcomes.{found_ok}
use Rattle.rows.proofs.Gathering.{storing_none, storing_more, storing_full, storing_stops, storing_done}
use Rattle.rows.proofs.reading.gather_row.Goals as goal

pub loop-at-init : goal.loop-at-init
loop-at-init c =
    storing_none _ _ _ _ _

pub returns-then-room-items : goal.returns-then-room-items
returns-then-room-items c =
    let stands = found_ok _ _ c.at_item.ensures c.in_ok-item.was in
    rw c.at_item-then-room-items.ensures (storing_full _ _ c.loop-at.invariant c.loop-at-test.true c.item.ensures stands c.if-room-items.true)

pub loop-at-preserved : goal.loop-at-preserved
loop-at-preserved c =
    let stands = found_ok _ _ c.at_item.ensures c.in_ok-item.was in
    storing_more _ _ c.loop-at.invariant c.loop-at-test.true c.item.ensures stands c.if-room-items.false c.keep.ensures

pub returns-in_err-item : goal.returns-in_err-item
returns-in_err-item c =
    let p = err_from_is_err_and c.from_residual.result c.from_residual.ensures.1 in
    rw (p.1, p.2) (storing_stops _ _ c.loop-at.invariant c.loop-at-test.true c.item.ensures c.at_item.ensures c.in_err-item.was)

pub returns : goal.returns
returns c =
    search (storing_done)
