-- `texts::page::Page::refused_line` puts its parts one behind another.
-- Assumes nothing.
use Rattle.texts.proofs.page.Putting.{◌then◌}
use Rattle.texts.specs.Said.{refused_line}
use Rattle.texts.proofs.page.Page.refused_line.Goals as goal

pub returns : goal.returns
unfolding refused_line
returns c =
    c.refused.ensures then c.put_text.ensures
