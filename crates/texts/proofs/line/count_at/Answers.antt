use mathlib.Core.Path.{sym, ◌∙◌}
use native.Mathlib.Omega.{arith}
use Rattle.texts.proofs.line.Counting.{count_none, count_empty, count_start, count_not, count_over, count_lf, count_other, count_space}
use Rattle.texts.proofs.line.Counting.{count_full}
use Rattle.texts.proofs.line.count_at.Goals as goal

pub returns-in_err-get : goal.returns-in_err-get
returns-in_err-get c =
    c.from_residual.ensures ∙ count_none _ _ _ (omega (arith, c.in_err-get.ensures.lookup))

pub returns-then-branch-eq-LF : goal.returns-then-branch-eq-LF
returns-then-branch-eq-LF c =
    let there = c.in_ok-get.ensures.lookup.3 in
    count_empty _ _ _ there.0 (sym (there.1 0) ∙ c.if-branch-eq-LF.true)

pub loop-before-init : goal.loop-before-init
loop-before-init c =
    let there = c.in_ok-get.ensures.lookup.3 in
    count_start there.0 (λ e. c.if-branch-eq-LF.false (there.1 0 ∙ e))

pub returns-in_err-end : goal.returns-in_err-end
returns-in_err-end c =
    c.from_residual-in_err-end.ensures ∙ count_not c.loop-before.invariant c.number_at.ensures c.in_err-end.was

pub returns-in_default : goal.returns-in_default
returns-in_default c =
    count_over c.loop-before.invariant c.number_at.ensures c.in_ok-end.was (omega (arith, c.in_default.ensures.lookup))

pub returns-in-10 : goal.returns-in-10
returns-in-10 c =
    let there = c.in-Some.ensures.lookup.3 in
    count_lf c.loop-before.invariant c.number_at.ensures c.in_ok-end.was there.0 c.loop-before-test.true (sym (there.1 0) ∙ c.in-10.is)

pub returns-in_default-byte : goal.returns-in_default-byte
returns-in_default-byte c =
    let there = c.in-Some.ensures.lookup.3 in
    count_other c.loop-before.invariant c.number_at.ensures c.in_ok-end.was there.0 (λ e. omega (arith, there.1 0)) (λ e. omega (arith, there.1 0))

pub loop-before-preserved : goal.loop-before-preserved
loop-before-preserved c =
    let there = c.in-Some.ensures.lookup.3 in
    count_space c.loop-before.invariant c.number_at.ensures c.in_ok-end.was there.0 c.loop-before-test.true (sym (there.1 0) ∙ c.in-32.is)

pub returns : goal.returns
returns c =
    count_full c.loop-before.invariant c.loop-before-test.false
