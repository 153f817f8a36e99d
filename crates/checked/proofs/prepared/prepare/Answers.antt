-- `checked::prepared::prepare` is the whole check, in its order.
-- Assumes nothing.
use borrow.Author.Rules.{rules}
use Rattle.checked.proofs.Opens.{lengths_are, prepared_length, prepared_fault, prepared_ready, prepared_cycles}
use Rattle.checked.proofs.prepared.prepare.Goals as goal

pub returns-then-not-lengths_fit : goal.returns-then-not-lengths_fit
returns-then-not-lengths_fit c =
    search (prepared_length, rules)

pub returns-in_err-weigh_all : goal.returns-in_err-weigh_all
returns-in_err-weigh_all c =
    search (prepared_fault, lengths_are, rules)

pub returns : goal.returns
returns c =
    prepared_cycles c.weigh_all.ensures (lengths_are _ _ c.if-not-lengths_fit.ensures) c.in_ok-weigh_all.was c.requires (search rules) c.judge.ensures

pub invariant_of-judge : goal.invariant_of-judge
invariant_of-judge c =
    prepared_ready c.weigh_all.ensures (lengths_are _ _ c.if-not-lengths_fit.ensures) c.in_ok-weigh_all.was
