use mathlib.Core.Path.{refl}
use native.Mathlib.Omega.{arith}
use Rattle.walk.proofs.Rooms.{tallied_deep}
use Rattle.laying.proofs.Lays.{laid_deep, laid_none, laid_stops, laid_two, laid_tag}
use Rattle.walk.proofs.Visit.{walk_deep, walk_cell, walk_word, walk_pass, walk_same, walk_tag, walk_two, visited, next_by}
use Rattle.numbers.specs.Size.{endless}
use Rattle.grammar.proofs.laws.{rules}
use Rattle.grammar.proofs.laws.Pool.{pool_in, pool_at}
use Rattle.grammar.proofs.laws.Shift.{shift_small, shift_bare}
use Rattle.walk.proofs.Nodes.{items_by, below_by, checked_by, parts_by, part_at, two_some, raised_none, raised_bare}
use Rattle.walk.proofs.Choosing.{choosing, dep_items, dep_low}
use Rattle.laying.proofs.Calls.{laid_by, lay_part, lay_shift, to_tagged, to_both}
use Rattle.laying.proofs.lay.+both_lay_tagged.Goals as goal

pub both-returns-in-Ok : goal.both-returns-in-Ok
unfolding rules
both-returns-in-Ok t c =
    laid_two c.lay.ensures c.in-Ok.ensures refl c.lay-in-Ok.ensures refl

pub both-returns-in-Err : goal.both-returns-in-Err
unfolding rules
both-returns-in-Err t c =
    rw c.stopped.ensures (laid_stops _ c.lay.ensures c.in-Err.stop c.in-Err.ensures)

pub lay-returns-then-left-eq0 : goal.lay-returns-then-left-eq0
unfolding rules
lay-returns-then-left-eq0 t c =
    rw c.stopped.ensures (laid_by (walk_deep _ _ _ _ c.if-left-eq0.true) (laid_deep refl (tallied_deep _)))

pub lay-step-requires : goal.lay-step-requires
unfolding rules
lay-step-requires t c =
    let v = c.requires.visits.0 in
    let k = c.in-Pool.is in (omega (arith, below_by v k, (checked_by (visited v) k pool_in).1), v.walks.slight)

pub lay-lay-requires : goal.lay-lay-requires
unfolding rules
lay-lay-requires t c =
    let v = c.requires.visits.0 in
    let k = c.in-Shift.is in lay_shift _ c.decreases c.if-left-eq0.false c.requires.left_bound
    (next_by v (items_by v k refl)).0 (raised_bare (checked_by (visited v) k shift_bare)) (checked_by (visited v) k shift_small)

pub lay-tagged-requires : goal.lay-tagged-requires
unfolding rules
lay-tagged-requires t c =
    let v = c.requires.visits.0 in let near = c.requires.left_bound in to_tagged c.decreases c.if-left-eq0.false (near.0, near.2, near.3)
    (next_by v (items_by v c.in-Or.is c.step-in-Or.ensures)).0

pub lay-both-requires : goal.lay-both-requires
unfolding rules
lay-both-requires t c =
    let v = c.requires.visits.0 in let n = next_by v (items_by v c.in-Cons.is c.step-in-Cons.ensures) in
    let near = c.requires.left_bound in to_both c.decreases c.if-left-eq0.false (near.0, near.2, near.3) n.0 n.1.0

pub lay-both-requires-in-Dep : goal.lay-both-requires-in-Dep
unfolding rules
lay-both-requires-in-Dep t c =
    let v = c.requires.visits.0 in let n = next_by v (dep_items v c.in-Dep.is (c.step-in-Dep.ensures endless)) in
    let near = c.requires.left_bound in to_both c.decreases c.if-left-eq0.false (near.0, near.2, near.3) n.0 n.1.0

pub lay-lay-requires-in-Except : goal.lay-lay-requires-in-Except
unfolding rules
lay-lay-requires-in-Except t c =
    let v = c.requires.visits.0 in lay_part _ c.decreases c.if-left-eq0.false c.requires.left_bound (next_by v
    (items_by v c.in-Except.is (part_at c.split.ensures))).0

pub lay-lay-requires-in-Fix : goal.lay-lay-requires-in-Fix
unfolding rules
lay-lay-requires-in-Fix t c =
    let v = c.requires.visits.0 in lay_part
    _ c.decreases c.if-left-eq0.false c.requires.left_bound (next_by v (items_by v c.in-Fix.is refl)).0

pub lay-lay-requires-in-Again : goal.lay-lay-requires-in-Again
unfolding rules
lay-lay-requires-in-Again t c =
    let v = c.requires.visits.0 in lay_part
    _ c.decreases c.if-left-eq0.false c.requires.left_bound (next_by v (items_by v c.in-Again.is refl)).0

pub lay-returns-in-Below : goal.lay-returns-in-Below
unfolding rules
lay-returns-in-Below t c =
    laid_by (walk_cell _ _ _ _ c.if-left-eq0.false (items_by c.requires.visits.0 c.in-Below.is refl) refl)
    c.put.ensures

pub lay-returns-in-Nats : goal.lay-returns-in-Nats
unfolding rules
lay-returns-in-Nats t c =
    laid_by (walk_cell _ _ _ _ c.if-left-eq0.false (items_by c.requires.visits.0 c.in-Nats.is refl) refl)
    c.put-in-Nats.ensures

pub lay-returns-in-Pool : goal.lay-returns-in-Pool
unfolding rules
lay-returns-in-Pool t c =
    laid_by
    (walk_word _ _ _ _ c.if-left-eq0.false (let v = c.requires.visits.0 in let k = c.in-Pool.is in
    items_by v k (pool_at _ _ _ _ (checked_by (visited v) k pool_in).1 (below_by v k) c.step.ensures))
    (raised_none c.requires.visits.1 c.in-Pool.is refl)) c.put-in-Pool.ensures

pub lay-returns-in-Shift : goal.lay-returns-in-Shift
unfolding rules
lay-returns-in-Shift t c =
    laid_by (walk_pass _ _ _ _ c.if-left-eq0.false (items_by c.requires.visits.0 c.in-Shift.is refl) refl)
    c.lay.ensures

pub lay-returns-in-Or : goal.lay-returns-in-Or
unfolding rules
lay-returns-in-Or t c =
    laid_by
    (walk_tag _ _ _ _ c.if-left-eq0.false (items_by c.requires.visits.0 c.in-Or.is c.step-in-Or.ensures)
    (raised_none c.requires.visits.1 c.in-Or.is refl)) c.tagged.ensures

pub lay-returns-in-Cons : goal.lay-returns-in-Cons
unfolding rules
lay-returns-in-Cons t c =
    laid_by
    (walk_two _ _ _ _ c.if-left-eq0.false (items_by c.requires.visits.0 c.in-Cons.is c.step-in-Cons.ensures)
    (raised_none c.requires.visits.1 c.in-Cons.is refl)) c.both.ensures

pub lay-returns-in-Dep : goal.lay-returns-in-Dep
unfolding rules
lay-returns-in-Dep t c =
    laid_by
    (walk_two _ _ _ _ c.if-left-eq0.false (dep_items c.requires.visits.0 c.in-Dep.is (c.step-in-Dep.ensures endless))
    (raised_none c.requires.visits.1 c.in-Dep.is refl)) c.both-in-Dep.ensures

pub lay-returns-in-Except : goal.lay-returns-in-Except
unfolding rules
lay-returns-in-Except t c =
    laid_by
    (walk_same _ _ _ _ c.if-left-eq0.false (items_by c.requires.visits.0 c.in-Except.is (part_at c.split.ensures))
    (raised_none c.requires.visits.1 c.in-Except.is refl)) c.lay-in-Except.ensures

pub lay-returns-in-Fix : goal.lay-returns-in-Fix
unfolding rules
lay-returns-in-Fix t c =
    laid_by (walk_same _ _ _ _ c.if-left-eq0.false (items_by c.requires.visits.0 c.in-Fix.is refl)
    (raised_none c.requires.visits.1 c.in-Fix.is refl)) c.lay-in-Fix.ensures

pub lay-returns-in-Again : goal.lay-returns-in-Again
unfolding rules
lay-returns-in-Again t c =
    laid_by (walk_same _ _ _ _ c.if-left-eq0.false (items_by c.requires.visits.0 c.in-Again.is refl)
    (raised_none c.requires.visits.1 c.in-Again.is refl)) c.lay-in-Again.ensures

pub tagged-returns-then-out-eq0 : goal.tagged-returns-then-out-eq0
unfolding rules
tagged-returns-then-out-eq0 t c =
    rw c.stopped.ensures (laid_none _ _ c.if-out-eq0.true)

pub tagged-returns : goal.tagged-returns
unfolding rules
tagged-returns t c =
    laid_tag _ _ c.if-out-eq0.false c.requires.left_bound.2 c.lay.ensures refl

pub lay-step-requires-in-Cons-clause-nonzero : goal.lay-step-requires-in-Cons-clause-nonzero
unfolding rules
lay-step-requires-in-Cons-clause-nonzero t c =
    let v = visited c.requires.visits.0 in two_some v (parts_by v c.in-Cons.is)

pub lay-step-requires-in-Dep-clause-dep_in : goal.lay-step-requires-in-Dep-clause-dep_in
unfolding rules
lay-step-requires-in-Dep-clause-dep_in t c =
    let v = c.requires.visits.0 in ((choosing (visited v) c.in-Dep.is).words, v.walks.slight)

pub lay-step-requires-in-Dep-clause-n_bound : goal.lay-step-requires-in-Dep-clause-n_bound
unfolding rules
lay-step-requires-in-Dep-clause-n_bound t c =
    dep_low c.requires.visits.0 c.in-Dep.is
