-- `checked::opened::Opened::fits` refuses by 12, and then by what the walk met, over a buffer.
-- Assumes nothing.
use mathlib.Core.Path.{refl, sym, ◌∙◌}
use native.Mathlib.Omega.{arith}
use Rattle.walk.proofs.Nodes.{raised_zero}
use Rattle.walk.proofs.Rooms.{left_within}
use Rattle.checked.proofs.Fitting.{lent_long, visits_of, fits_12, fits_walk}
use Rattle.checked.proofs.opened.Opened.fits.Goals as goal

pub lay-rest-requires-clause-visits : goal.lay-rest-requires-clause-visits
lay-rest-requires-clause-visits c =
    (visits_of c.self.invariant _ c.asked.ensures c.if-asked.true, raised_zero _ _)

pub fit_of-requires : goal.fit_of-requires
fit_of-requires c =
    λ k e. omega (arith, left_within _ (sym e ∙ c.lay-rest.ensures.is), lent_long c.args.out.now c.room_for-most.ensures)

pub returns-then-asked : goal.returns-then-asked
returns-then-asked c =
    let at_args = c in
    rw (← c.self.view_is) (fits_walk c.self.invariant _ c.asked.ensures at_args.args.out.now c.if-asked.true c.lay-rest.result c.room_for-most.ensures
    c.fit_of.ensures c.lay-rest.ensures refl)

pub returns : goal.returns
returns c =
    rw (← c.self.view_is) (fits_12 c.self.invariant _ c.asked.ensures _ c.if-asked.false)
