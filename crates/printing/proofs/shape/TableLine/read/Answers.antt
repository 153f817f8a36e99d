-- `printing::shape::TableLine::read` reads the table's line, which is the first.
-- Assumes nothing.
use native.Mathlib.Omega.{arith}
use Rattle.printing.proofs.shape.Parts.{too_long, no_table, empty_table, some_table}
use Rattle.printing.proofs.shape.TableLine.read.Goals as goal

pub returns-then-text-ge-INPUT_ROOM : goal.returns-then-text-ge-INPUT_ROOM
returns-then-text-ge-INPUT_ROOM c =
    record { is = too_long _ c.if-text-ge-INPUT_ROOM.true }

pub returns-in_err-line : goal.returns-in_err-line
returns-in_err-line c =
    rw c.from_residual.ensures (record { is = no_table (omega arith) c.numbers_at.ensures (omega arith) c.in_err-line.was })

pub returns-then-line-eq0 : goal.returns-then-line-eq0
returns-then-line-eq0 c =
    record { is = empty_table (omega arith) c.numbers_at.ensures (omega arith) c.in_ok-line.was c.if-line-eq0.true }

pub returns : goal.returns
returns c =
    record { is = some_table (omega arith) c.numbers_at.ensures (omega arith) c.in_ok-line.was c.if-line-eq0.false }
