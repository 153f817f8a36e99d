-- `asking::answers::refused_at_item` puts its parts one behind another.
-- Assumes nothing.
use Rattle.texts.proofs.page.Putting.{◌then◌}
use Rattle.asking.specs.Texts.{refused_item}
use Rattle.asking.proofs.answers.refused_at_item.Goals as goal

pub returns : goal.returns
unfolding refused_item
returns c =
    c.refused.ensures then c.put_text.ensures then c.put_number.ensures then c.end_line.ensures
