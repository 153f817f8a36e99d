-- `grammar::kinds::row` refuses a word that is no kind's (2), and else is the row of the kind.
-- Assumes nothing.
use Rattle.std.proofs.lemmas.Result.{err_from_is_err_and}
use Rattle.grammar.proofs.KindWords.{weighed_unknown}
use Rattle.grammar.proofs.kinds.row.Goals as goal

pub returns-in_err-try_from : goal.returns-in_err-try_from
returns-in_err-try_from c =
    let p = err_from_is_err_and c.from_residual.result c.from_residual.ensures.1 in
    let f = c.in_err-try_from.ensures in
    rw (p.1, p.2, f.0) (weighed_unknown _ _ _ f.1)
