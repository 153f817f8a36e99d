-- `cycles::judge` is the verdict on cycles.
-- Assumes nothing.
use Rattle.cycles.proofs.Table.{cycles_9, cycles_10, cycles_none, cycles_no_again}
use Rattle.cycles.proofs.judge.Goals as goal

pub returns-then-not-has_again : goal.returns-then-not-has_again
returns-then-not-has_again c =
    cycles_no_again c.checked.ensures c.has_again.ensures c.if-not-has_again.true

pub returns-in-Some : goal.returns-in-Some
returns-in-Some c =
    cycles_9 c.checked.ensures c.in-Some.ensures

pub returns-in-Some-except_on_cycle : goal.returns-in-Some-except_on_cycle
returns-in-Some-except_on_cycle c =
    cycles_10 c.checked.ensures c.in_default.ensures c.in-Some-except_on_cycle.ensures

pub returns : goal.returns
returns c =
    cycles_none c.checked.ensures c.in_default.ensures c.in_default-except_on_cycle.ensures
