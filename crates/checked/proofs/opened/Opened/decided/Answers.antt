-- `checked::opened::Opened::decided` refuses by 12, and then by what the walk met.
-- Assumes nothing.
use mathlib.Core.Path.{sym, ◌∙◌}
use Rattle.walk.proofs.Rooms.{left_within}
use Rattle.checked.proofs.Fitting.{visits_of, decided_12, decided_walk}
use Rattle.checked.proofs.opened.Opened.decided.Goals as goal

pub tally-rest-requires-clause-visits : goal.tally-rest-requires-clause-visits
tally-rest-requires-clause-visits c =
    visits_of c.self.invariant _ c.asked.ensures c.if-asked.true

pub fit_of-requires : goal.fit_of-requires
fit_of-requires c =
    λ k e. left_within _ (sym e ∙ c.tally-rest.ensures)

pub returns-then-asked : goal.returns-then-asked
returns-then-asked c =
    rw (← c.self.view_is) (decided_walk c.self.invariant _ c.asked.ensures c.if-asked.true _ c.tally-rest.result c.room_for-most.ensures
    c.fit_of.ensures c.tally-rest.ensures)

pub returns : goal.returns
returns c =
    rw (← c.self.view_is) (decided_12 c.self.invariant _ c.asked.ensures _ c.if-asked.false)
