-- `printing::print::put_case_refused` puts its parts one behind another.
-- Assumes nothing.
use Rattle.texts.proofs.page.Putting.{◌then◌}
use Rattle.printing.specs.Texts.{case_refused_text}
use Rattle.printing.proofs.print.put_case_refused.Goals as goal

pub returns : goal.returns
unfolding case_refused_text
returns c =
    c.put_text.ensures then c.put_number.ensures then c.put_text-2.ensures then rw c.number_of.ensures at c.put_number-2.ensures
    then c.put_text-3.ensures
