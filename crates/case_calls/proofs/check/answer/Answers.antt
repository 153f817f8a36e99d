-- `case_calls::check::answer` prints what `check` answers, where its line has no fields.
-- Assumes nothing.
use Rattle.cases.proofs.Values.{check_is}
use Rattle.texts.proofs.page.Putting.{told}
use Rattle.case_calls.specs.Check.{check_text}
use Rattle.case_calls.proofs.Answered.{check_not, check_done}
use Rattle.case_calls.proofs.check.answer.Goals as goal

pub returns-then-ne : goal.returns-then-ne
returns-then-ne c =
    told (check_not _ _ _ c.as_slice.ensures c.ne.ensures c.if-ne.true) c.unreadable.ensures

pub returns-in-Ok : goal.returns-in-Ok
unfolding check_text
returns-in-Ok c =
    told (check_done _ _ _ c.as_slice.ensures c.ne.ensures c.if-ne.false (check_is _ _ c.check.ensures) c.in-Ok.is) c.put_text.ensures

pub returns-in-Err : goal.returns-in-Err
unfolding check_text
returns-in-Err c =
    told (check_done _ _ _ c.as_slice.ensures c.ne.ensures c.if-ne.false (check_is _ _ c.check.ensures) c.in-Err.is) c.refused_line.ensures
