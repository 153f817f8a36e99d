-- `printer_tests::print_each` goes from input to input, each further on.
-- Assumes nothing.
use native.Mathlib.Omega.{arith}
use mathlib.Core.Path.{sym, ◌∙◌}
use Rattle.texts.proofs.numeral.Digits.{number_within}
use Rattle.printer_tests.proofs.print_each.Goals as goal

pub loop-at-init : goal.loop-at-init
loop-at-init c =
    tt

pub loop-at-smaller : goal.loop-at-smaller
loop-at-smaller c =
    let w = number_within c.args.text.now c.loop-at.at (sym c.number_at.ensures ∙ c.in-Some.is) in
    omega (arith, w)

pub loop-at-preserved : goal.loop-at-preserved
loop-at-preserved c =
    tt
