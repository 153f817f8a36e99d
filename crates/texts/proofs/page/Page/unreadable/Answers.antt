-- `texts::page::Page::unreadable` puts its text.
-- Assumes nothing.
use Rattle.texts.specs.Said.{unreadable_text}
use Rattle.texts.proofs.page.Page.unreadable.Goals as goal

pub returns : goal.returns
unfolding unreadable_text
returns c =
    c.put_text.ensures
