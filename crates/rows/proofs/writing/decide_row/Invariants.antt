-- `rows::writing::decide_row` decides the items in turn.
-- Assumes nothing.
use Rattle.checked.specs.Opened.{rules}
use Rattle.rows.proofs.WrittenInTurn.{Tallying}
use Rattle.rows.proofs.writing.decide_row.Given as goal

abbrev pub invariant-loop-item : goal.invariant-loop-item
invariant-loop-item l = Tallying (rules l.opened) l.opened.start l.room l.numbers l.item l.taken
