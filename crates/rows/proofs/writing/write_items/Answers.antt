-- `rows::writing::write_items` decides on the whole row, and writes it.
-- Assumes nothing.
use Rattle.rows.proofs.Calls.{items_written}
use Rattle.rows.proofs.writing.write_items.Goals as goal

pub returns : goal.returns
returns c =
    items_written _ _ c.decide_row.ensures c.in_ok-decide_row.was c.lay_row.ensures
