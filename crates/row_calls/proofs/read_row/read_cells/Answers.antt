-- `row_calls::read_row::read_cells` prints what `read_row` answers, and that the other words are as they were.
-- Assumes nothing.
use native.Mathlib.Omega.{arith}
use Rattle.rows.proofs.CountedRows.{got_fits}
use Rattle.row_calls.proofs.Rows.{row_done, row_refused, got, got_holds, got_words}
use Rattle.row_calls.proofs.read_row.read_cells.Goals as goal

pub done_line-requires : goal.done_line-requires
done_line-requires c =
    omega (arith, got_fits c.read_row.ensures c.in-Ok.is)

pub returns-in-Ok : goal.returns-in-Ok
returns-in-Ok c =
    let (size, words) = got_words c.args.numbers.now c.fill.ensures c.read_row.ensures c.in-Ok.is in
    row_done _ _ c.fill.ensures (got_holds c.args.numbers.now c.fill.ensures c.read_row.ensures)
    (got c.args.numbers.now c.fill.ensures c.read_row.ensures) c.in-Ok.is size words c.done_line.ensures

pub returns-in-Err : goal.returns-in-Err
returns-in-Err c =
    row_refused _ _ c.fill.ensures (got_holds c.args.numbers.now c.fill.ensures c.read_row.ensures)
    (got c.args.numbers.now c.fill.ensures c.read_row.ensures) c.in-Err.is c.refused_at_item.ensures
