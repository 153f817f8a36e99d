-- `row_calls::reader::ReaderOnCells::call` ends: each item moves the place on, and within the row.
-- Assumes nothing.
use Prim.Native.Nat.{◌-◌}
use lib.ListN.{length}
use Rattle.row_calls.proofs.Asking.{Asking}
use Rattle.row_calls.proofs.reader.ReaderOnCells.call.Given as goal

abbrev pub invariant-loop-next : goal.invariant-loop-next
invariant-loop-next l = Asking l.self.about.table.now l.self.about.pool.now l.start l.cells l.initial.page l.page l.at

abbrev pub decreases-loop-next : goal.decreases-loop-next
decreases-loop-next l = length l.cells - l.at
