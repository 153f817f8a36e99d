-- `asking::answers::number_line` puts its parts one behind another.
-- Assumes nothing.
use Rattle.texts.proofs.page.Putting.{◌then◌}
use Rattle.asking.specs.Texts.{number_line}
use Rattle.asking.proofs.answers.number_line.Goals as goal

pub returns : goal.returns
unfolding number_line
returns c =
    c.put_text.ensures then c.put_number.ensures then c.put_text-2.ensures
