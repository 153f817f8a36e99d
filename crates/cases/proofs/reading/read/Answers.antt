-- `cases::reading::read` opens, and reads a whole case.
-- Assumes nothing.
use borrow.Author.Rules.{rules}
use Rattle.std.proofs.lemmas.Result.{err_from_is_err_and}
use Rattle.checked.specs.Opened.{rules as of}
use Rattle.checked.specs.Item.{whole, Stood}
use Rattle.cases.proofs.Calls.{read_refused, read_number, read_not}
use Rattle.cases.proofs.reading.read.Goals as goal

pub returns-in_err-read : goal.returns-in_err-read
returns-in_err-read c =
    let p = err_from_is_err_and c.from_residual.result c.from_residual.ensures.1 in
    rw (p.1, p.2) (read_refused _ _ _ c.in_err-read.ensures.0 _)

pub returns-in_err-item : goal.returns-in_err-item
returns-in_err-item c =
    let p = err_from_is_err_and c.from_residual-in_err-item.result c.from_residual-in_err-item.ensures.1 in
    let (o, l, m, opens, _, _, post) = c.in_ok-read.ensures in
    let w : Stood (whole (of o.now) o.now.start c.args.cells.now) c.args.cells.now 0 c.in_ok-read.read = search rules in
    rw (p.1, p.2) (read_not opens _ w c.in_err-item.was)

pub returns : goal.returns
returns c =
    let (o, l, m, opens, _, _, post) = c.in_ok-read.ensures in
    let w : Stood (whole (of o.now) o.now.start c.args.cells.now) c.args.cells.now 0 c.in_ok-read.read = search rules in
    read_number opens _ w c.in_ok-item.was
