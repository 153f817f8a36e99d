-- `printing::input::one_at` reads a line with room for one number.
-- Assumes nothing.
use mathlib.Core.Path.{◌∙◌}
use native.Mathlib.Omega.{arith}
use Rattle.printing.proofs.input.Lines.{one_none, one_some, one_not}
use Rattle.printing.proofs.input.one_at.Goals as goal

pub returns-in_err-line : goal.returns-in_err-line
returns-in_err-line c =
    c.from_residual.ensures ∙ one_not c.numbers_at.ensures (omega arith) c.in_err-line.was

pub returns-then-line-eq0 : goal.returns-then-line-eq0
returns-then-line-eq0 c =
    one_none c.numbers_at.ensures c.in_ok-line.was c.if-line-eq0.true

pub returns : goal.returns
returns c =
    one_some c.numbers_at.ensures c.in_ok-line.was (omega arith) c.if-line-eq0.false
