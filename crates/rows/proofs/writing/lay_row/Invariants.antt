-- `rows::writing::lay_row` writes the items in turn.
-- Assumes nothing.
use Rattle.checked.specs.Opened.{rules}
use Rattle.rows.proofs.WrittenInTurn.{Laying}
use Rattle.rows.proofs.writing.lay_row.Given as goal

abbrev pub invariant-loop-item : goal.invariant-loop-item
invariant-loop-item l = Laying (rules l.opened) l.opened.start l.numbers l.initial.cells l.cells l.item l.used
