-- `calling::line::after` is behind the first LF, or at the end.
-- Assumes nothing.
use Rattle.lists.proofs.Fills.{part_old}
use Rattle.calling.proofs.Input.{end_lf, end_all}
use Rattle.calling.proofs.line.after.Goals as goal

pub returns-in-Some : goal.returns-in-Some
returns-in-Some c =
    end_lf c.args.text.now c.args.at (rw part_old at c.lf_at.ensures) c.in-Some.is

pub returns-in-None : goal.returns-in-None
returns-in-None c =
    end_all c.args.text.now c.args.at (rw part_old at c.lf_at.ensures) c.requires c.in-None.is
