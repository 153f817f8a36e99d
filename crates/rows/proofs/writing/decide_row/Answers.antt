use mathlib.Core.Path.{◌≡◌}
use native.Mathlib.Omega.{arith}
use Rattle.std.specs.Prelude.{Ok}
use Rattle.std.proofs.lemmas.Result.{err_from_is_err_and}
use Rattle.rows.proofs.Outcomes.{found_ok}
use Rattle.rows.proofs.WrittenInTurn.{tallying_fits, tallying_more, tallying_stops, tallying_all}
use Rattle.rows.proofs.writing.decide_row.Goals as goal

pub overflow_add-taken : goal.overflow_add-taken
overflow_add-taken c =
    let fit : c.decided.result ≡ Ok c.in_ok-taken.field-0 = found_ok _ _ c.at_item.ensures c.in_ok-taken.was in
    omega (arith, tallying_fits _ _ c.loop-item.invariant c.loop-item-test.true c.decided.ensures fit)

pub loop-item-preserved : goal.loop-item-preserved
loop-item-preserved c =
    let fit = found_ok _ _ c.at_item.ensures c.in_ok-taken.was in
    tallying_more _ _ c.loop-item.invariant c.loop-item-test.true c.decided.ensures fit

pub returns-in_err-taken : goal.returns-in_err-taken
returns-in_err-taken c =
    let p = err_from_is_err_and c.from_residual.result c.from_residual.ensures.1 in
    rw (p.1, p.2) (tallying_stops _ _ c.loop-item.invariant c.loop-item-test.true c.decided.ensures c.at_item.ensures c.in_err-taken.was)

pub returns : goal.returns
returns c =
    tallying_all _ _ c.loop-item.invariant c.loop-item-test.false
