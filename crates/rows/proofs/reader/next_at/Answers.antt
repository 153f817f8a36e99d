-- `rows::reader::next_at` opens, and answers what comes next.
-- Assumes nothing.
use mathlib.Core.Path.{◌≡◌}
use borrow.Author.Rules.{rules}
use lib.ListN.{drop}
use Rattle.std.proofs.lemmas.Result.{err_from_is_err_and}
use Rattle.checked.specs.Opened.{rules as of}
use Rattle.rows.specs.Reader.{next}
use Rattle.rows.proofs.Calls.{next_refused, next_is}
use Rattle.rows.proofs.reader.next_at.Goals as goal

pub returns-in_err-with_opened-clause-is : goal.returns-in_err-with_opened-clause-is
returns-in_err-with_opened-clause-is c =
    let p = err_from_is_err_and c.from_residual.result c.from_residual.ensures.1 in
    rw (p.1, p.2) (next_refused _ _ _ c.in_err-with_opened.ensures.0 _ _)

pub returns-clause-is : goal.returns-clause-is
returns-clause-is c =
    let (o, l, m, stands, lent, left, post) = c.in_ok-with_opened.ensures in
    let e : c.in_ok-with_opened.field-0 ≡ next (of o.now) o.now.start (drop c.args.at c.args.row.now) = search rules in
    next_is stands _ _ e
