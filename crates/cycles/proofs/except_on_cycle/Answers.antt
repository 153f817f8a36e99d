-- `cycles::except_on_cycle` asks the excepts.
-- Assumes nothing.
use Rattle.cycles.proofs.Table.{lowest_except}
use Rattle.cycles.proofs.except_on_cycle.Goals as goal

pub returns : goal.returns
returns c =
    lowest_except _ _ _ c.lowest_asked.ensures
