-- `printing::print::answer` prints by the table's line and the shape that were read.
-- Assumes nothing.
use Rattle.texts.proofs.page.Putting.{told}
use Rattle.printing.proofs.print.Whole.{no_line, no_shape, some_shape}
use Rattle.printing.proofs.print.answer.Goals as goal

pub returns-in_default : goal.returns-in_default
returns-in_default c =
    told (no_line c.read.ensures c.in_default.is) c.unreadable.ensures

pub returns-in_default-read : goal.returns-in_default-read
returns-in_default-read c =
    told (no_shape (c.read-2.ensures.shapes _ c.in-Some.ensures) c.in_default-read.is) c.unreadable-in_default-read.ensures

pub returns : goal.returns
returns c =
    some_shape (c.read-2.ensures.shapes _ c.in-Some.ensures) c.in-Some-read.is c.judge.ensures
