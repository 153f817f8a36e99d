-- `rows::writing::write_row` opens, and writes the items.
-- Assumes nothing.
use borrow.Author.Rules.{rules}
use Rattle.std.proofs.lemmas.Result.{err_from_is_err_and}
use Rattle.checked.specs.Opened.{rules as of}
use Rattle.rows.specs.WriteRow.{WroteItems}
use Rattle.rows.proofs.Calls.{row_refused, row_done}
use Rattle.rows.proofs.writing.write_row.Goals as goal

pub returns-in_err-with_opened : goal.returns-in_err-with_opened
returns-in_err-with_opened c =
    let p = err_from_is_err_and c.from_residual.result c.from_residual.ensures.1 in
    rw (p.1, p.2) (row_refused _ _ _ c.in_err-with_opened.ensures.0 c.in_err-with_opened.ensures.1)

pub returns : goal.returns
returns c =
    let (o, l, m, stands, lent, left, post) = c.in_ok-with_opened.ensures in
    let w : WroteItems (of o.now) o.now.start c.args.numbers.now l.now m.now c.in_ok-with_opened.field-0 = search rules in
    row_done stands (rw (lent, left) at w)
