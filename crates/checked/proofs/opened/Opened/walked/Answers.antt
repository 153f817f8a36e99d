-- `checked::opened::Opened::walked` is what the walk reads over the cells that a case may have.
-- Assumes nothing.
use mathlib.Core.Path.{sym, ◌∙◌}
use Rattle.taking.proofs.Said.{read_ok}
use Rattle.checked.proofs.Standing.{walked_not, walked_case}
use Rattle.checked.proofs.opened.Opened.walked.Goals as goal

pub returns-in-Err : goal.returns-in-Err
returns-in-Err c =
    let s = c.in-Err.ensures in
    rw (← c.self.view_is) (walked_not _ _ c.room_for-few.ensures c.self.invariant c.requires c.take.ensures s.0 (c.why.ensures ∙ sym (s.1 _)))

pub returns : goal.returns
returns c =
    let s = c.in-Ok.ensures in
    rw (← c.self.view_is, c.unwrap_or.ensures) (walked_case _ _ c.room_for-few.ensures c.self.invariant c.requires c.take.ensures (read_ok _ s) _ s)
