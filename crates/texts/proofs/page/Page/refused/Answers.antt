-- `texts::page::Page::refused` puts its parts one behind another.
-- Assumes nothing.
use Rattle.texts.proofs.page.Putting.{◌then◌}
use Rattle.texts.specs.Said.{refused_text}
use Rattle.texts.proofs.page.Page.refused.Goals as goal

pub returns : goal.returns
unfolding refused_text
returns c =
    c.put_text.ensures then rw c.number_of.ensures at c.put_number.ensures then c.put_text-2.ensures then c.put_number-2.ensures
