-- `row_calls::write_row::write_cells` prints what `write_row` answers, and that the other words are as they were.
-- Assumes nothing.
use native.Mathlib.Omega.{arith}
use Rattle.rows.proofs.CountedRows.{row_size, row_fits, row_cells}
use Rattle.row_calls.proofs.Rows.{row_done, row_refused, wrote}
use Rattle.row_calls.proofs.write_row.write_cells.Goals as goal

pub done_line-requires : goal.done_line-requires
done_line-requires c =
    omega (arith, row_fits c.write_row.ensures c.in-Ok.is)

pub returns-in-Ok : goal.returns-in-Ok
returns-in-Ok c =
    row_done _ _ c.fill.ensures c.write_row.ensures.holds (wrote c.args.cells.now c.fill.ensures c.write_row.ensures) c.in-Ok.is
    (row_size c.write_row.ensures c.in-Ok.is) (row_cells c.write_row.ensures c.in-Ok.is) c.done_line.ensures

pub returns-in-Err : goal.returns-in-Err
returns-in-Err c =
    row_refused _ _ c.fill.ensures c.write_row.ensures.holds (wrote c.args.cells.now c.fill.ensures c.write_row.ensures) c.in-Err.is
    c.refused_at_item.ensures
