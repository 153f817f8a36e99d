-- `calling::desk::Desk::answer_line` takes a table, or makes the call of a line.
-- Assumes nothing.
use native.Mathlib.Omega.{arith}
use Rattle.calling.proofs.Input.{next_from, next_within, turn_table, turn_call}
use Rattle.calling.proofs.desk.Desk.answer_line.Goals as goal

pub slice_bounds-line-count : goal.slice_bounds-line-count
slice_bounds-line-count c =
    next_from _ _ c.after-next.ensures

pub slice_bounds-line-start : goal.slice_bounds-line-start
slice_bounds-line-start c =
    next_from _ _ c.after-next.ensures

pub slice_bounds-line-end : goal.slice_bounds-line-end
slice_bounds-line-end c =
    next_within _ _ c.after-next.ensures (omega (arith, c.requires))

pub returns-then-eq : goal.returns-then-eq
returns-then-eq c =
    turn_table c.args.text.now c.args.at c.requires c.after-next.ensures c.as_slice.ensures c.eq.ensures c.if-eq.true c.take_table.ensures

pub returns : goal.returns
returns c =
    turn_call c.args.text.now c.args.at c.requires c.after-next.ensures c.as_slice.ensures c.eq.ensures c.if-eq.false c.answer_call.ensures.said
    c.answer_call.ensures.kept
