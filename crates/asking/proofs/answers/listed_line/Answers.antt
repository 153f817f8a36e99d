-- `asking::answers::listed_line` puts its parts one behind another.
-- Assumes nothing.
use Rattle.texts.proofs.page.Putting.{◌then◌}
use Rattle.asking.specs.Texts.{cells_text}
use Rattle.asking.proofs.answers.listed_line.Goals as goal

pub returns : goal.returns
unfolding cells_text
returns c =
    c.put_number.ensures then c.put_text.ensures then c.put_numbers.ensures then c.end_line.ensures
