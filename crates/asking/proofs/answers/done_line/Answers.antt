-- `asking::answers::done_line` puts its parts one behind another.
-- Assumes nothing.
use Rattle.texts.proofs.page.Putting.{◌then◌}
use Rattle.asking.specs.Texts.{items_text}
use Rattle.asking.proofs.answers.done_line.Goals as goal

pub returns : goal.returns
unfolding items_text
returns c =
    c.put_number.ensures then c.put_text.ensures then c.listed_line.ensures
