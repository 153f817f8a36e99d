-- `taking::own::any` reads the cell of a nats.
-- Assumes nothing.
use mathlib.Core.Path.{ap}
use Rattle.std.proofs.lemmas.Result.{err_from_is_err_and}
use Rattle.numbers.specs.Joined.{word_of}
use Rattle.taking.proofs.Leaves.{any_stops, any_number}
use Rattle.taking.proofs.own.any.Goals as goal

pub returns-in_err-c : goal.returns-in_err-c
returns-in_err-c c =
    let p = err_from_is_err_and c.from_residual.result c.from_residual.ensures.1 in
    rw (p.1, p.2) (λ go. any_stops c.cell_at.ensures go c.in_err-c.was c.requires.0)

pub returns : goal.returns
returns c =
    λ go. any_number c.cell_at.ensures go c.in_ok-c.was (ap word_of c.cap.ensures)
