-- `taking::own::listed` reads the cell of a pool.
-- Assumes nothing.
use mathlib.Core.Path.{◌≡◌, sym, ◌∙◌}
use native.Mathlib.Omega.{arith}
use Rattle.std.specs.Prelude.{Some, None}
use Rattle.std.proofs.lemmas.Result.{err_from_is_err_and}
use Rattle.taking.specs.declared.number.Unread.TheVariants.{NotACase}
use Rattle.walk.specs.Lent.{pool_of}
use Rattle.taking.proofs.Cells.{cell_in}
use Rattle.taking.proofs.Leaves.{listed_some, listed_none, listed_stops}
use Rattle.taking.proofs.own.listed.Goals as goal

pub returns-in_err-c : goal.returns-in_err-c
returns-in_err-c c =
    let p = err_from_is_err_and c.from_residual.result c.from_residual.ensures.1 in
    rw (p.1, p.2) (λ go. listed_stops (pool_of c.args.lent.now) c.args.a c.args.b c.cell_at.ensures go c.in_err-c.was c.requires.at_in_bounds.0)

pub returns-in_err-m : goal.returns-in_err-m
returns-in_err-m c =
    let p = err_from_is_err_and c.from_residual-in_err-m.result c.from_residual-in_err-m.ensures.1 in
    let n : c.place_of.result ≡ None = grind arith in
    let u : c.in_err-m.field-0.0 ≡ NotACase = grind arith in
    rw (p.1, p.2, u) (λ go. listed_none (pool_of c.args.lent.now) c.args.a c.args.b c.cell_at.ensures go _ c.in_ok-c.was (sym n ∙ c.place_of.ensures))

pub place_of-requires : goal.place_of-requires
place_of-requires c =
    c.requires.b_bound.1

pub overflow_add-at : goal.overflow_add-at
overflow_add-at c =
    omega (arith, c.requires.at_in_bounds.1, cell_in c.cell_at.ensures c.in_ok-c.was)

pub returns : goal.returns
returns c =
    let s : c.place_of.result ≡ Some c.in_ok-m.m = grind arith in
    λ go. listed_some (pool_of c.args.lent.now) c.args.a c.args.b c.cell_at.ensures go _ c.in_ok-c.was (sym s ∙ c.place_of.ensures) c.requires.b_bound.0
