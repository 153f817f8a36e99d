-- `rows::reading::gather_row` reads the items in turn, over a buffer.
-- Assumes nothing.
use Prim.Native.Nat.{◌-◌}
use lib.ListN.{length}
use Rattle.checked.specs.Opened.{rules}
use Rattle.rows.proofs.Gathering.{Storing}
use Rattle.rows.proofs.reading.gather_row.Given as goal

abbrev pub invariant-loop-at : goal.invariant-loop-at
invariant-loop-at l = Storing (rules l.opened) l.opened.start l.room l.cells l.initial.out l.out l.at l.items

abbrev pub decreases-loop-at : goal.decreases-loop-at
decreases-loop-at l = length l.cells - l.at
