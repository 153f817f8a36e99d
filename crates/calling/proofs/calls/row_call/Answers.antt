-- `calling::calls::row_call` makes the call on a row that its word names.
-- Assumes nothing.
use Rattle.texts.proofs.page.Putting.{told}
use Rattle.row_calls.specs.WriteRow.{write_row_call}
use Rattle.row_calls.specs.ReadRow.{read_row_call}
use Rattle.row_calls.specs.Reader.{reader_call}
use Rattle.calling.proofs.Named.{first, next, last}
use Rattle.calling.proofs.calls.row_call.Goals as goal

pub returns-then-eq : goal.returns-then-eq
unfolding write_row_call
returns-then-eq c =
    told (first _ _ c.as_slice.ensures c.eq.ensures c.if-eq.true _) c.answer_row.ensures.puts

pub returns-then-eq-2 : goal.returns-then-eq-2
unfolding read_row_call
returns-then-eq-2 c =
    told (next _ _ c.as_slice.ensures c.eq.ensures c.if-eq.false _ _ (first _ _ c.as_slice-2.ensures c.eq-2.ensures c.if-eq-2.true _))
    c.answer_row-then-eq-2.ensures.puts

pub returns-then-eq-3 : goal.returns-then-eq-3
unfolding reader_call
returns-then-eq-3 c =
    told (next _ _ c.as_slice.ensures c.eq.ensures c.if-eq.false _ _ (next _ _ c.as_slice-2.ensures c.eq-2.ensures c.if-eq-2.false _ _
    (first _ _ c.as_slice-3.ensures c.eq-3.ensures c.if-eq-3.true _))) c.answer_cells.ensures.puts

pub returns : goal.returns
returns c =
    told (next _ _ c.as_slice.ensures c.eq.ensures c.if-eq.false _ _ (next _ _ c.as_slice-2.ensures c.eq-2.ensures c.if-eq-2.false _ _
    (next _ _ c.as_slice-3.ensures c.eq-3.ensures c.if-eq-3.false _ _ (last _)))) c.unreadable.ensures
