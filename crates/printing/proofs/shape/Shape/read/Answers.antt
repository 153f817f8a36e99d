-- `printing::shape::Shape::read` reads line after line: the pool's, the start node's and the numbers'.
-- Assumes nothing.
use mathlib.Core.Path.{refl, sym, ◌∙◌}
use native.Mathlib.Omega.{arith}
use Rattle.printing.proofs.shape.Parts.{no_pool, some_pool, no_start, some_start, no_numbers}
use Rattle.printing.proofs.shape.Shape.read.Goals as goal

pub returns-in_err-pool_line : goal.returns-in_err-pool_line
returns-in_err-pool_line c =
    rw c.from_residual.ensures (record {
      shapes = λ table first. record { is = no_pool _ c.numbers_at.ensures (omega arith) c.in_err-pool_line.was ∙ first.is; each = refl };
    })

pub returns-in_err-start : goal.returns-in_err-start
returns-in_err-start c =
    rw c.from_residual-in_err-start.ensures (record {
      shapes = λ table first.
          let pool = some_pool _ c.numbers_at.ensures (omega arith) c.in_ok-pool_line.was in
          record { is = no_start _ _ _ _ c.one_at.ensures c.in_err-start.was ∙ pool ∙ first.is; each = refl };
    })

pub returns-then-not-one_each : goal.returns-then-not-one_each
returns-then-not-one_each c =
    record {
      shapes = λ table first.
          let pool = some_pool _ c.numbers_at.ensures (omega arith) c.in_ok-pool_line.was in
          let start = some_start _ _ _ _ c.one_at.ensures c.in_ok-start.was in
          record { is = no_numbers _ _ _ _ c.one_each.ensures c.if-not-one_each.true ∙ start ∙ pool ∙ first.is; each = refl };
    }

pub returns : goal.returns
returns c =
    record {
      shapes = λ table first.
          let pool = some_pool _ c.numbers_at.ensures (omega arith) c.in_ok-pool_line.was in
          let start = some_start _ _ _ _ c.one_at.ensures c.in_ok-start.was in
          record { is = start ∙ pool ∙ first.is; each = sym c.one_each.ensures ∙ c.if-not-one_each.false };
    }
