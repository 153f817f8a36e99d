-- `printing::print::put_case` puts its parts one behind another.
-- Assumes nothing.
use Rattle.texts.proofs.page.Putting.{◌then◌}
use Rattle.printing.specs.Texts.{case_text}
use Rattle.printing.proofs.print.put_case.Goals as goal

pub returns : goal.returns
unfolding case_text
returns c =
    c.put_text.ensures then c.put_number.ensures then c.put_text-2.ensures then c.put_line.ensures
