-- `case_calls::write::write_case` prints what `write` answers, and that the other words are as they were.
-- Assumes nothing.
use native.Mathlib.Omega.{arith}
use Rattle.cases.proofs.Counted.{written_fits}
use Rattle.texts.proofs.page.Putting.{◌then◌}
use Rattle.case_calls.proofs.Writing.{prints_done, prints_refused}
use Rattle.case_calls.proofs.write.write_case.Goals as goal

pub listed_line-requires : goal.listed_line-requires
listed_line-requires c =
    omega (arith, written_fits c.write.ensures _ c.in-Ok.is)

pub returns-in-Ok : goal.returns-in-Ok
returns-in-Ok c =
    search prints_done

pub returns-in-Err : goal.returns-in-Err
returns-in-Err c =
    prints_refused _ c.fill.ensures c.write.ensures c.in-Err.is (c.refused.ensures then c.end_line.ensures)
