-- `case_calls::read::ReadOnCells::call` prints what `read` answers of the cells.
-- Assumes nothing.
use mathlib.Core.Path.{sym, ap, ◌∙◌}
use Rattle.cases.proofs.Values.{read_is}
use Rattle.texts.proofs.page.Putting.{told}
use Rattle.case_calls.specs.Read.{found_text, read_text}
use Rattle.case_calls.proofs.read.ReadOnCells.call.Goals as goal

pub returns-in-Ok : goal.returns-in-Ok
unfolding found_text read_text
returns-in-Ok c =
    told (ap found_text (sym c.in-Ok.is ∙ read_is _ _ _ _ c.read.ensures)) c.number_line.ensures

pub returns-in-Err : goal.returns-in-Err
unfolding found_text read_text
returns-in-Err c =
    told (ap found_text (sym c.in-Err.is ∙ read_is _ _ _ _ c.read.ensures)) c.refused_line.ensures
