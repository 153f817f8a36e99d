-- `rows::reading::read_over` decides over a buffer of its own, and stores only the numbers of a row that can be read.
-- Assumes nothing.
use Rattle.rows.proofs.Gathering.{items_few, items_kept}
use Rattle.rows.proofs.reading.read_over.Goals as goal

pub copy-requires : goal.copy-requires
copy-requires c =
    (c.if-row-scratch.true, items_few _ c.gather_row.ensures c.in_ok-row.was)

pub returns-then-row-scratch : goal.returns-then-row-scratch
returns-then-row-scratch c =
    items_kept _ c.gather_row.ensures c.in_ok-row.was c.if-row-scratch.true c.copy.ensures
