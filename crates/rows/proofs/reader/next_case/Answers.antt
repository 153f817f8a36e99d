-- `rows::reader::next_case` ends at the row's end, and else reads one case.
-- Assumes nothing.
use Rattle.std.proofs.lemmas.Result.{err_from_is_err_and}
use Rattle.rows.proofs.Calls.{next_end, next_item, next_not}
use Rattle.rows.proofs.reader.next_case.Goals as goal

pub returns-then-row-at-clause-is : goal.returns-then-row-at-clause-is
returns-then-row-at-clause-is c =
    next_end _ _ _ _ c.if-row-at.true

pub returns-in_err-item-clause-is : goal.returns-in_err-item-clause-is
returns-in_err-item-clause-is c =
    let p = err_from_is_err_and c.from_residual.result c.from_residual.ensures.1 in
    rw (p.1, p.2) (next_not _ _ _ _ c.if-row-at.false c.item.ensures c.in_err-item.was)

pub returns-clause-is : goal.returns-clause-is
returns-clause-is c =
    next_item _ _ _ _ c.if-row-at.false c.item.ensures c.in_ok-item.was
