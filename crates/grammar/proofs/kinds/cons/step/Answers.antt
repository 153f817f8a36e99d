-- `grammar::kinds::cons::step` is what a visit of a cons shows.
-- Assumes nothing.
use mathlib.Core.Path.{sym, ap}
use Rattle.grammar.specs.kinds.Cons.{both, cons_rule}
use Rattle.grammar.proofs.kinds.cons.step.Goals as goal

pub returns : goal.returns
unfolding cons_rule
returns c =
    ap (both _ _) (sym c.split-q.ensures)
