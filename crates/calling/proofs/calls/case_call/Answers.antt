-- `calling::calls::case_call` makes the call on one case that its word names, or hands the word on.
-- Assumes nothing.
use mathlib.Core.Path.{refl}
use Rattle.texts.proofs.page.Putting.{told}
use Rattle.case_calls.specs.Write.{write_call}
use Rattle.case_calls.specs.Read.{read_call}
use Rattle.calling.proofs.Named.{first, next}
use Rattle.calling.proofs.calls.case_call.Goals as goal

pub returns-then-eq : goal.returns-then-eq
returns-then-eq c =
    told (first _ _ c.as_slice.ensures c.eq.ensures c.if-eq.true _) c.answer.ensures

pub returns-then-eq-2 : goal.returns-then-eq-2
unfolding write_call
returns-then-eq-2 c =
    told (next _ _ c.as_slice.ensures c.eq.ensures c.if-eq.false _ _ (first _ _ c.as_slice-2.ensures c.eq-2.ensures c.if-eq-2.true _))
    c.answer_row.ensures.puts

pub returns-then-eq-3 : goal.returns-then-eq-3
unfolding read_call
returns-then-eq-3 c =
    told (next _ _ c.as_slice.ensures c.eq.ensures c.if-eq.false _ _ (next _ _ c.as_slice-2.ensures c.eq-2.ensures c.if-eq-2.false _ _
    (first _ _ c.as_slice-3.ensures c.eq-3.ensures c.if-eq-3.true _))) c.answer_cells.ensures.puts

pub returns : goal.returns
returns c =
    told (next _ _ c.as_slice.ensures c.eq.ensures c.if-eq.false _ _ (next _ _ c.as_slice-2.ensures c.eq-2.ensures c.if-eq-2.false _ _
    (next _ _ c.as_slice-3.ensures c.eq-3.ensures c.if-eq-3.false _ _ refl))) c.row_call.ensures
