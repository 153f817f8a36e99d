use mathlib.Core.Path.{refl, ◌∙◌}
use native.Mathlib.Omega.{arith}
use Rattle.walk.proofs.Rooms.{tallied_deep, tallied_full, tallied_cell, left_within, two_left}
use Rattle.walk.proofs.Visit.{walk_deep, walk_cell, walk_pass, walk_tag, walk_two, visited, next_by}
use Rattle.numbers.specs.Size.{endless}
use Rattle.grammar.proofs.laws.{rules}
use Rattle.walk.proofs.Nodes.{items_by, parts_by, part_at, two_some}
use Rattle.walk.proofs.Choosing.{choosing, dep_items, dep_low}
use Rattle.laying.proofs.Lays.{both_stop}
use Rattle.laying.proofs.Calls.{tally_by, tally_any, tally_up, tally_part, to_tagged, to_both}
use Rattle.laying.proofs.tally.+both_tagged_tally.Goals as goal

pub both-tally-requires-in-Ok : goal.both-tally-requires-in-Ok
unfolding rules
both-tally-requires-in-Ok t c =
    let l = c.requires.left_bound in
    let room = left_within _ (c.in-Ok.ensures ∙ c.tally.ensures) in
    (omega (arith, c.decreases), (c.requires.visits_two.1, (l.1, l.2, omega (arith, l.3, room))))

pub both-returns-in-Ok : goal.both-returns-in-Ok
unfolding rules
both-returns-in-Ok t c =
    two_left _ _ _ (c.in-Ok.ensures ∙ c.tally.ensures) c.tally-in-Ok.ensures

pub both-returns-in-Err : goal.both-returns-in-Err
unfolding rules
both-returns-in-Err t c =
    c.stopped.ensures ∙ both_stop _ _ _ c.in-Err.stop (c.in-Err.ensures ∙ c.tally.ensures)

pub tagged-returns-then-room-eq0 : goal.tagged-returns-then-room-eq0
unfolding rules
tagged-returns-then-room-eq0 t c =
    c.stopped.ensures ∙ tallied_full _ _ _ c.if-room-eq0.true

pub tagged-returns : goal.tagged-returns
unfolding rules
tagged-returns t c =
    c.tally.ensures ∙ tallied_cell _ _ _ c.if-room-eq0.false

pub tally-returns-then-left-eq0 : goal.tally-returns-then-left-eq0
unfolding rules
tally-returns-then-left-eq0 t c =
    tally_by _ (walk_deep _ _ _ _ c.if-left-eq0.true) (c.stopped.ensures ∙ tallied_deep _)

pub tally-tally-requires : goal.tally-tally-requires
unfolding rules
tally-tally-requires t c =
    tally_part c.decreases c.if-left-eq0.false
    c.requires.left_bound (next_by c.requires.visits (items_by c.requires.visits c.in-Shift.is refl)).0

pub tally-tagged-requires : goal.tally-tagged-requires
unfolding rules
tally-tagged-requires t c =
    to_tagged c.decreases
    c.if-left-eq0.false c.requires.left_bound
    (next_by c.requires.visits (items_by c.requires.visits c.in-Or.is c.step.ensures)).0

pub tally-both-requires : goal.tally-both-requires
unfolding rules
tally-both-requires t c =
    let n = next_by c.requires.visits
    (items_by c.requires.visits c.in-Cons.is c.step-in-Cons.ensures) in
    to_both c.decreases c.if-left-eq0.false c.requires.left_bound n.0 n.1.0

pub tally-both-requires-in-Dep : goal.tally-both-requires-in-Dep
unfolding rules
tally-both-requires-in-Dep t c =
    let n = next_by c.requires.visits (dep_items c.requires.visits c.in-Dep.is (c.step-in-Dep.ensures endless)) in
    to_both c.decreases c.if-left-eq0.false c.requires.left_bound n.0 n.1.0

pub tally-tally-requires-in-Except : goal.tally-tally-requires-in-Except
unfolding rules
tally-tally-requires-in-Except t c =
    tally_part c.decreases c.if-left-eq0.false
    c.requires.left_bound (next_by c.requires.visits (items_by c.requires.visits c.in-Except.is (part_at c.split.ensures))).0

pub tally-tally-requires-in-Fix : goal.tally-tally-requires-in-Fix
unfolding rules
tally-tally-requires-in-Fix t c =
    tally_part c.decreases c.if-left-eq0.false
    c.requires.left_bound (next_by c.requires.visits (items_by c.requires.visits c.in-Fix.is refl)).0

pub tally-tally-requires-in-Again : goal.tally-tally-requires-in-Again
unfolding rules
tally-tally-requires-in-Again t c =
    tally_part c.decreases c.if-left-eq0.false
    c.requires.left_bound (next_by c.requires.visits (items_by c.requires.visits c.in-Again.is refl)).0

pub tally-returns-in-Below : goal.tally-returns-in-Below
unfolding rules
tally-returns-in-Below t c =
    tally_any _
    (walk_cell _ _ _ _ c.if-left-eq0.false (items_by c.requires.visits c.in-Below.is refl) refl) c.one.ensures

pub tally-returns-in-Nats : goal.tally-returns-in-Nats
unfolding rules
tally-returns-in-Nats t c =
    tally_any _
    (walk_cell _ _ _ _ c.if-left-eq0.false (items_by c.requires.visits c.in-Nats.is refl) refl) c.one-in-Nats.ensures

pub tally-returns-in-Pool : goal.tally-returns-in-Pool
unfolding rules
tally-returns-in-Pool t c =
    tally_any _
    (walk_cell _ _ _ _ c.if-left-eq0.false (items_by c.requires.visits c.in-Pool.is refl) refl) c.one-in-Pool.ensures

pub tally-returns-in-Shift : goal.tally-returns-in-Shift
unfolding rules
tally-returns-in-Shift t c =
    tally_up _ _ _ _ _ _
    (walk_pass _ _ _ _ c.if-left-eq0.false (items_by c.requires.visits c.in-Shift.is refl) refl) c.tally.ensures

pub tally-returns-in-Or : goal.tally-returns-in-Or
unfolding rules
tally-returns-in-Or t c =
    tally_any _
    (walk_tag _ _ _ _ c.if-left-eq0.false (items_by c.requires.visits c.in-Or.is c.step.ensures) refl)
    c.tagged.ensures

pub tally-returns-in-Cons : goal.tally-returns-in-Cons
unfolding rules
tally-returns-in-Cons t c =
    tally_by _
    (walk_two _ _ _ _ c.if-left-eq0.false (items_by c.requires.visits c.in-Cons.is c.step-in-Cons.ensures) refl)
    c.both.ensures

pub tally-returns-in-Dep : goal.tally-returns-in-Dep
unfolding rules
tally-returns-in-Dep t c =
    tally_by
    _ (walk_two _ _ _ _ c.if-left-eq0.false (dep_items c.requires.visits c.in-Dep.is (c.step-in-Dep.ensures endless)) refl)
    c.both-in-Dep.ensures

pub tally-returns-in-Except : goal.tally-returns-in-Except
unfolding rules
tally-returns-in-Except t c =
    tally_by _
    (walk_pass _ _ _ _ c.if-left-eq0.false (items_by c.requires.visits c.in-Except.is (part_at c.split.ensures)) refl)
    c.tally-in-Except.ensures

pub tally-returns-in-Fix : goal.tally-returns-in-Fix
unfolding rules
tally-returns-in-Fix t c =
    tally_by _
    (walk_pass _ _ _ _ c.if-left-eq0.false (items_by c.requires.visits c.in-Fix.is refl) refl) c.tally-in-Fix.ensures

pub tally-returns-in-Again : goal.tally-returns-in-Again
unfolding rules
tally-returns-in-Again t c =
    tally_by _
    (walk_pass _ _ _ _ c.if-left-eq0.false (items_by c.requires.visits c.in-Again.is refl) refl) c.tally-in-Again.ensures

pub tally-step-requires-in-Cons-clause-nonzero : goal.tally-step-requires-in-Cons-clause-nonzero
unfolding rules
tally-step-requires-in-Cons-clause-nonzero t c =
    let v = visited c.requires.visits in two_some v (parts_by v c.in-Cons.is)

pub tally-step-requires-in-Dep-clause-dep_in : goal.tally-step-requires-in-Dep-clause-dep_in
unfolding rules
tally-step-requires-in-Dep-clause-dep_in t c =
    let v = c.requires.visits in ((choosing (visited v) c.in-Dep.is).words, v.walks.slight)

pub tally-step-requires-in-Dep-clause-n_bound : goal.tally-step-requires-in-Dep-clause-n_bound
unfolding rules
tally-step-requires-in-Dep-clause-n_bound t c =
    dep_low c.requires.visits c.in-Dep.is
