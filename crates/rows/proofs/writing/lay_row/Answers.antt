use mathlib.Core.Path.{◌≡◌, refl}
use native.Mathlib.Omega.{arith}
use Rattle.std.specs.Prelude.{Ok}
use Rattle.std.proofs.lemmas.Result.{err_from_is_err_and}
use Rattle.rows.proofs.Outcomes.{found_ok}
use Rattle.rows.proofs.WrittenInTurn.{laying_none, laying_long, laying_fits, laying_more, laying_stops, laying_all}
use Rattle.rows.proofs.writing.lay_row.Goals as goal

pub loop-item-init : goal.loop-item-init
loop-item-init c =
    laying_none _ _ _ _

pub overflow_add-used : goal.overflow_add-used
overflow_add-used c =
    let good = c.well_formed in
    let long = laying_long _ _ c.loop-item.invariant in
    let fit : c.fits.result ≡ Ok c.in_ok-used.field-0 = found_ok _ _ c.at_item.ensures c.in_ok-used.was in
    omega (arith, laying_fits _ _ c.loop-item.invariant c.loop-item-test.true refl c.fits.ensures fit)

pub loop-item-preserved : goal.loop-item-preserved
loop-item-preserved c =
    let fit = found_ok _ _ c.at_item.ensures c.in_ok-used.was in
    laying_more _ _ c.loop-item.invariant c.loop-item-test.true refl c.fits.ensures fit

pub returns-in_err-used : goal.returns-in_err-used
returns-in_err-used c =
    let p = err_from_is_err_and c.from_residual.result c.from_residual.ensures.1 in
    rw (p.1, p.2) (laying_stops _ _ c.loop-item.invariant c.loop-item-test.true refl c.fits.ensures c.at_item.ensures c.in_err-used.was)

pub returns : goal.returns
returns c =
    laying_all _ _ c.loop-item.invariant c.loop-item-test.false
