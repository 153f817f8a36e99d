-- `texts::page::Page::put_byte` puts a byte at the place of the next.
-- Assumes nothing.
use Rattle.std.proofs.Common.{arith}
use Rattle.texts.proofs.page.Putting.{place_within, one}
use Rattle.texts.proofs.page.Page.put_byte.Goals as goal

pub bounds-self-at : goal.bounds-self-at
bounds-self-at c =
    place_within _ c.place-at.ensures.place

pub overflow_add-self : goal.overflow_add-self
overflow_add-self c =
    omega (arith, place_within _ c.place-at.ensures.place)

pub returns : goal.returns
returns c =
    rw c.place-at.ensures.kept (one {b = c.args.byte} c.place-at.ensures.place)
