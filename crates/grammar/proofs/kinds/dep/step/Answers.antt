-- `grammar::kinds::dep::step` is what a visit of a dep shows.
-- Assumes nothing.
use native.Mathlib.Omega.{arith}
use Rattle.grammar.specs.kinds.Dep.{dep_rule}
use Rattle.grammar.proofs.SecondsInTurn.{second_in, second_is}
use Rattle.grammar.proofs.kinds.dep.step.Goals as goal

pub parts-q-requires : goal.parts-q-requires
unfolding dep_rule
parts-q-requires c =
    c.requires.dep_in.0

pub overflow_add-result : goal.overflow_add-result
unfolding dep_rule
overflow_add-result c =
    let q = second_in c.requires.dep_in.0 _ c.parts-q.ensures c.requires.n_bound in omega
    (arith, q, c.requires.dep_in.1)

pub offset_bounds-pool-b : goal.offset_bounds-pool-b
unfolding dep_rule
offset_bounds-pool-b c =
    let q = second_in c.requires.dep_in.0 _ c.parts-q.ensures c.requires.n_bound in omega
    (arith, q, c.requires.dep_in.1)

pub bounds-pool-b : goal.bounds-pool-b
unfolding dep_rule
bounds-pool-b c =
    let q = second_in c.requires.dep_in.0 _ c.parts-q.ensures c.requires.n_bound in omega
    (arith, q, c.requires.dep_in.1)

pub returns : goal.returns
unfolding dep_rule
returns c =
    λ s. second_is c.requires.dep_in.0 _ c.parts-q.ensures c.requires.n_bound
