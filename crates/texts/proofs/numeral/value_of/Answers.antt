use mathlib.Core.Path.{◌∙◌}
use Rattle.texts.proofs.numeral.Values.{valued_end, valued_past, valued_more, digit_low}
use Rattle.texts.proofs.numeral.value_of.Goals as goal

pub overflow_sub-byte : goal.overflow_sub-byte
overflow_sub-byte c =
    digit_low c.requires c.loop-byte-test.true

pub returns-in_err-value : goal.returns-in_err-value
returns-in_err-value c =
    c.from_residual.ensures ∙ valued_past c.loop-byte.invariant c.loop-byte-test.true (rw c.from.ensures at c.with_digit.ensures) c.in_err-value.was

pub loop-byte-preserved : goal.loop-byte-preserved
loop-byte-preserved c =
    valued_more c.loop-byte.invariant c.loop-byte-test.true (rw c.from.ensures at c.with_digit.ensures) c.in_ok-value.was

pub returns : goal.returns
returns c =
    search valued_end
