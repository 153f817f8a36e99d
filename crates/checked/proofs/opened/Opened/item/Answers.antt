-- `checked::opened::Opened::item` is the case at a place.
-- Assumes nothing.
use Rattle.std.proofs.lemmas.Result.{err_from_is_err_and}
use Rattle.checked.proofs.Standing.{front_not, front_case}
use Rattle.checked.proofs.opened.Opened.item.Goals as goal

pub returns-in_err-walked : goal.returns-in_err-walked
returns-in_err-walked c =
    let p = err_from_is_err_and c.from_residual.result c.from_residual.ensures.1 in
    rw (p.1, p.2) (front_not c.walked.ensures c.in_err-walked.was)

pub returns : goal.returns
returns c =
    front_case c.walked.ensures c.in_ok-walked.was c.numbered.ensures
