-- `taking::own::counted` reads the cell of a below.
-- Assumes nothing.
use mathlib.Core.Path.{◌≡◌, sym, ◌∙◌}
use native.Mathlib.Omega.{arith}
use Rattle.std.specs.Prelude.{Some, None}
use Rattle.std.proofs.lemmas.Result.{err_from_is_err_and}
use Rattle.taking.specs.declared.number.Unread.TheVariants.{NotACase}
use Rattle.taking.proofs.Cells.{cell_in}
use Rattle.taking.proofs.Leaves.{counted_low, counted_some, counted_none, counted_stops}
use Rattle.taking.proofs.own.counted.Goals as goal

pub returns-in_err-c-clause-reads : goal.returns-in_err-c-clause-reads
returns-in_err-c-clause-reads c =
    let p = err_from_is_err_and c.from_residual.result c.from_residual.ensures.1 in
    rw (p.1, p.2) (λ go. counted_stops _ c.cell_at.ensures go c.in_err-c.was c.requires.1)

pub returns-in_err-m-clause-reads : goal.returns-in_err-m-clause-reads
returns-in_err-m-clause-reads c =
    let p = err_from_is_err_and c.from_residual-in_err-m.result c.from_residual-in_err-m.ensures.1 in
    let n : c.place_of.result ≡ None = grind arith in
    let u : c.in_err-m.field-0.0 ≡ NotACase = grind arith in
    rw (p.1, p.2, u) (λ go. counted_none _ c.cell_at.ensures go _ c.in_ok-c.was (sym n ∙ c.place_of.ensures))

pub overflow_add-at : goal.overflow_add-at
overflow_add-at c =
    omega (arith, c.requires.2, cell_in c.cell_at.ensures c.in_ok-c.was)

pub returns-clause-low : goal.returns-clause-low
returns-clause-low c =
    let s : c.place_of.result ≡ Some c.in_ok-m.m = grind arith in
    counted_low _ _ (sym s ∙ c.place_of.ensures)

pub returns-clause-reads : goal.returns-clause-reads
returns-clause-reads c =
    let s : c.place_of.result ≡ Some c.in_ok-m.m = grind arith in
    λ go. counted_some _ c.cell_at.ensures go _ c.in_ok-c.was (sym s ∙ c.place_of.ensures) c.requires.0
