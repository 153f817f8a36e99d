-- `texts::line::count_at` is the count of a line's numbers: at each place passed, those counted and those of the rest.
-- Assumes nothing.
use Rattle.texts.proofs.line.Counting.{Counting}
use Rattle.texts.proofs.line.count_at.Given as goal

abbrev pub invariant-loop-before : goal.invariant-loop-before
invariant-loop-before l = Counting l.text l.at l.room l.before l.i
