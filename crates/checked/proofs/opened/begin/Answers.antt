-- `checked::opened::begin` checks the table, and then the start.
-- Assumes nothing.
use Rattle.std.proofs.lemmas.Result.{err_from_is_err_and}
use Rattle.checked.proofs.Opens.{opens_refused, opens_11, opens_reads, opens_ready}
use Rattle.checked.proofs.opened.begin.Goals as goal

pub returns-in_err-prepare : goal.returns-in_err-prepare
returns-in_err-prepare c =
    let p = err_from_is_err_and c.from_residual.result c.from_residual.ensures.1 in
    rw (p.1, p.2) (opens_refused c.prepare.ensures _ c.in_err-prepare.was)

pub returns-then-table-start : goal.returns-then-table-start
returns-then-table-start c =
    rw c.from.ensures (opens_11 c.prepare.ensures c.args.start c.in_ok-prepare.was c.if-table-start.true)

pub invariant_of-result : goal.invariant_of-result
invariant_of-result c =
    opens_reads c.prepare.ensures c.args.start c.in_ok-prepare.was c.if-table-start.false

pub returns : goal.returns
returns c =
    opens_ready c.prepare.ensures c.args.start c.in_ok-prepare.was c.if-table-start.false
