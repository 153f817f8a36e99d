-- `texts::page::Page::put_text` copies a text that fits; another it puts byte by byte.
-- Assumes nothing.
use native.Mathlib.Omega.{arith}
use Rattle.texts.proofs.page.Putting.{put_whole}
use Rattle.texts.proofs.page.Page.put_text.Goals as goal

pub returns-then-text-at : goal.returns-then-text-at
returns-then-text-at c =
    put_whole (omega arith) (omega arith) c.copy_from_slice.ensures.after (omega arith)
