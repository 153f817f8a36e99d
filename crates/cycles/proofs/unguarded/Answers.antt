-- `cycles::unguarded` asks the agains alone, and only where marks leave it open: the lowest node of a cycle is one.
-- Assumes nothing.
use Rattle.cycles.proofs.Table.{finds_none, lowest_again}
use Rattle.cycles.proofs.unguarded.Goals as goal

pub returns-then-all_safe : goal.returns-then-all_safe
returns-then-all_safe c =
    finds_none (c.all_safe.ensures c.if-all_safe.true)

pub returns : goal.returns
returns c =
    lowest_again c.checked.ensures c.lowest_asked.ensures
