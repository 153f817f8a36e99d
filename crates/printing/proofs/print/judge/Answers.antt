-- `printing::print::judge` prints the numbers' lines, or a refusal.
-- Assumes nothing.
use Rattle.printing.proofs.print.Starts.{judge_cases, judge_refused}
use Rattle.printing.proofs.print.judge.Goals as goal

pub returns-in-Ok : goal.returns-in-Ok
returns-in-Ok c =
    search judge_cases

pub returns-in-Err : goal.returns-in-Err
returns-in-Err c =
    search judge_refused
