-- `texts::line::store` stores the numbers of a line: at each place passed, those stored and those of the rest.
-- Assumes nothing.
use Rattle.texts.proofs.line.Storing.{Storing}
use Rattle.texts.proofs.line.store.Given as goal

abbrev pub invariant-loop-word : goal.invariant-loop-word
invariant-loop-word l = Storing l.text l.at l.initial.out l.out l.i l.word-index
