-- `printing::print::put_answer` prints the cells that were written, or the refusal.
-- Assumes nothing.
use borrow.Author.Rules.{rules}
use native.Mathlib.Omega.{arith}
use lib.ListN.{length-take}
use Rattle.cases.proofs.Counted.{written_fits}
use Rattle.printing.proofs.print.Cases.{case_done, case_refused}
use Rattle.printing.proofs.print.put_answer.Goals as goal

pub slice_bounds-cells-end : goal.slice_bounds-cells-end
slice_bounds-cells-end c =
    omega (arith, written_fits c.write.ensures _ c.in-Ok.is)

pub slice_bounds-put_case-end : goal.slice_bounds-put_case-end
slice_bounds-put_case-end c =
    simp length-take (omega (arith, written_fits c.write.ensures _ c.in-Ok.is))

pub returns-in-Ok : goal.returns-in-Ok
returns-in-Ok c =
    search (rules, case_done)

pub returns-in-Err : goal.returns-in-Err
returns-in-Err c =
    search (rules, case_refused)
