-- `texts::numeral::number_at` is the number at a place.
-- Assumes nothing.
use mathlib.Core.Path.{◌≡◌, ◌∙◌}
use Prim.Native.Nat.{◌<◌}
use native.Mathlib.Omega.{arith}
use lib.ListN.{get_or}
use Rattle.texts.proofs.numeral.At.{at_past_end, at_none, at_digits, at_leading, at_word, at_past}
use Rattle.texts.proofs.numeral.number_at.Goals as goal
use Rattle.texts.proofs.numeral.number_at.Goals.{else-rest-eq-DIGIT_0-via-then-rest-eq-DIGIT_0+else-size-gt1, else-rest-eq-DIGIT_0-via-else-rest-eq-DIGIT_0}

pub returns-in_err-rest : goal.returns-in_err-rest
returns-in_err-rest c =
    c.from_residual.ensures ∙ at_past_end c.args.text.now c.args.at (grind (arith, c.in_err-rest.ensures.lookup))

pub returns-then-size-eq0 : goal.returns-then-size-eq0
returns-then-size-eq0 c =
    at_none c.args.text.now c.args.at c.in_ok-rest.ensures.lookup.0.2 c.digits_size-size.ensures c.if-size-eq0.true

pub returns-then-size-gt1 : goal.returns-then-size-gt1
returns-then-size-gt1 c =
    at_leading c.args.text.now c.args.at c.in_ok-rest.ensures.lookup.0.2 c.digits_size-size.ensures c.if-rest-eq-DIGIT_0.true c.if-size-gt1.true

pub value_of-requires : goal.value_of-requires
value_of-requires c =
    at_digits c.args.text.now c.args.at c.in_ok-rest.ensures.lookup.0.2 c.digits_size-size.ensures

pub returns-in_err-value : goal.returns-in_err-value
returns-in_err-value c =
    let alone : 1 < c.digits_size-size.result → get_or c.in_ok-rest.rest.now 0 0 ≡ 48 → ⊥ =
    elim c.else-rest-eq-DIGIT_0.branch [
      | else-rest-eq-DIGIT_0-via-then-rest-eq-DIGIT_0+else-size-gt1 w ↦ λ l z. omega (arith, w.if-size-gt1.false)
      | else-rest-eq-DIGIT_0-via-else-rest-eq-DIGIT_0 w ↦ λ l z. w.if-rest-eq-DIGIT_0.false z
    ] in
    c.from_residual-in_err-value.ensures
    ∙ at_past c.args.text.now c.args.at c.in_ok-rest.ensures.lookup.0.2 c.digits_size-size.ensures c.if-size-eq0.false alone c.value_of.ensures
    c.in_err-value.was

pub returns : goal.returns
returns c =
    let alone : 1 < c.digits_size-size.result → get_or c.in_ok-rest.rest.now 0 0 ≡ 48 → ⊥ =
    elim c.else-rest-eq-DIGIT_0.branch [
      | else-rest-eq-DIGIT_0-via-then-rest-eq-DIGIT_0+else-size-gt1 w ↦ λ l z. omega (arith, w.if-size-gt1.false)
      | else-rest-eq-DIGIT_0-via-else-rest-eq-DIGIT_0 w ↦ λ l z. w.if-rest-eq-DIGIT_0.false z
    ] in
    at_word c.args.text.now c.args.at c.in_ok-rest.ensures.lookup.0.2 c.digits_size-size.ensures c.if-size-eq0.false alone c.value_of.ensures
    c.in_ok-value.was
