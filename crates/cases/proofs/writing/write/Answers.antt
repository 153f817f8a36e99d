-- `cases::writing::write` opens, and writes one case.
-- Assumes nothing.
use borrow.Author.Rules.{rules}
use Rattle.std.proofs.lemmas.Result.{err_from_is_err_and}
use Rattle.checked.specs.Opened.{rules as of}
use Rattle.checked.specs.Fits.{Placed}
use Rattle.cases.proofs.Calls.{wrote_refused, wrote_cells, wrote_not}
use Rattle.cases.proofs.writing.write.Goals as goal

pub returns-in_err-written : goal.returns-in_err-written
returns-in_err-written c =
    let p = err_from_is_err_and c.from_residual.result c.from_residual.ensures.1 in
    rw (p.1, p.2) (wrote_refused _ _ _ c.in_err-written.ensures.0 c.in_err-written.ensures.1)

pub returns-in_err-count : goal.returns-in_err-count
returns-in_err-count c =
    let p = err_from_is_err_and c.from_residual-in_err-count.result c.from_residual-in_err-count.ensures.1 in
    let (o, l, m, stands, lent, left, post) = c.in_ok-written.ensures in
    let w : Placed (of o.now) o.now.start c.args.number l.now m.now c.in_ok-written.written = search rules in
    rw (p.1, p.2) (wrote_not stands (rw (lent, left) at w) c.in_err-count.was)

pub returns : goal.returns
returns c =
    let (o, l, m, stands, lent, left, post) = c.in_ok-written.ensures in
    let w : Placed (of o.now) o.now.start c.args.number l.now m.now c.in_ok-written.written = search rules in
    wrote_cells stands (rw (lent, left) at w) c.in_ok-count.was
