-- `checked::opened::Opened::whole` is all cells as one case.
-- Assumes nothing.
use Rattle.std.proofs.lemmas.Result.{err_from_is_err_and}
use Rattle.checked.proofs.Standing.{whole_not, whole_over, whole_case}
use Rattle.checked.proofs.opened.Opened.whole.Goals as goal

pub returns-in_err-item : goal.returns-in_err-item
returns-in_err-item c =
    let p = err_from_is_err_and c.from_residual.result c.from_residual.ensures.1 in
    rw (p.1, p.2) (whole_not c.walked.ensures c.in_err-item.was)

pub returns-then-item-cells : goal.returns-then-item-cells
returns-then-item-cells c =
    whole_over c.walked.ensures c.in_ok-item.was c.if-item-cells.true

pub returns : goal.returns
returns c =
    whole_case c.walked.ensures c.in_ok-item.was c.if-item-cells.false c.numbered.ensures
