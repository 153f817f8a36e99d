-- `calling::desk::Desk::sizes_at` knows a table where both lines can be read.
-- Assumes nothing.
use native.Mathlib.Omega.{arith}
use Rattle.calling.proofs.Tables.{no_table, no_pool, both}
use Rattle.calling.proofs.desk.Desk.sizes_at.Goals as goal

pub returns-in_err-table : goal.returns-in_err-table
returns-in_err-table c =
    rw c.from_residual.ensures (no_table (omega arith) c.numbers_at.ensures c.in_err-table.was)

pub returns-in_err-pool : goal.returns-in_err-pool
returns-in_err-pool c =
    rw c.from_residual-in_err-pool.ensures (no_pool (omega arith) c.numbers_at.ensures c.requires (omega arith) c.numbers_at-2.ensures c.in_err-pool.was)

pub returns : goal.returns
returns c =
    both (omega arith) c.numbers_at.ensures c.requires (omega arith) c.numbers_at-2.ensures c.in_ok-table.was c.in_ok-pool.was
