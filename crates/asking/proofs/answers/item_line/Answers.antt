-- `asking::answers::item_line` puts its parts one behind another.
-- Assumes nothing.
use Rattle.texts.proofs.page.Putting.{◌then◌}
use Rattle.asking.specs.Texts.{item_text}
use Rattle.asking.proofs.answers.item_line.Goals as goal

pub returns : goal.returns
unfolding item_text
returns c =
    c.put_text.ensures then c.put_number.ensures then c.put_text-2.ensures then c.put_number-2.ensures then c.put_text-3.ensures
