-- `checked::opened::Opened::write` writes once nothing but 12 can refuse the number: where every case fits, or where the first pass says so.
-- Assumes nothing.
use Rattle.checked.proofs.Fitting.{settled_cells, settled_sure, placed}
use Rattle.checked.proofs.opened.Opened.write.Goals as goal
use Rattle.checked.proofs.opened.Opened.write.Goals.{then-not-sure+in_ok-decided, else-not-sure}

pub returns : goal.returns
returns c =
    placed (elim c.if-not-sure.branch [
      | then-not-sure+in_ok-decided w ↦ settled_cells _ _ _ _ w.decided.ensures w.in_ok-decided.was
      | else-not-sure w ↦ rw (← c.self.view_is) (settled_sure c.self.invariant _ _ c.room_for.ensures (c.sure.ensures w.if-not-sure.false))
    ]) c.fits.ensures
