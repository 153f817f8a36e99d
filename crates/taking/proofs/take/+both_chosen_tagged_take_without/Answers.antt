use mathlib.Core.Path.{refl, sym, ap}
use native.Mathlib.Nat.{add-zero}
use native.Mathlib.Omega.{arith}
use Rattle.walk.specs.Plan.{Reading}
use Rattle.grammar.proofs.laws.{rules}
use Rattle.grammar.proofs.laws.Pool.{pool_in}
use Rattle.grammar.proofs.laws.Shift.{shift_small}
use Rattle.grammar.proofs.laws.Except.{except_small}
use Rattle.walk.proofs.Nodes.{tree_by, parts_by, checked_by, reads_one, reads_two}
use Rattle.walk.proofs.Choosing.{choosing, second_place}
use Rattle.taking.proofs.Calls.{part_next, visit_part, visit_shift, visit_shape, visit_tagged}
use Rattle.std.proofs.lemmas.Result.{err_from_is_err_and}
use Rattle.numbers.specs.Joined.{word_of}
use Rattle.taking.proofs.Said.{unread_over, read_some, read_none, read_err, read_ok}
use Rattle.taking.proofs.Takes.{deep_taken, tree_taken, pass_taken}
use Rattle.taking.proofs.kinds.Or.{tag_inside, or_stops, or_stays, or_number, side_of}
use Rattle.taking.proofs.kinds.Cons.{cons_stops, cons_stays, cons_past, cons_number}
use Rattle.taking.proofs.kinds.Dep.{dep_first, dep_stops, dep_stays, dep_number}
use Rattle.taking.proofs.kinds.Except.{except_unfit, except_stays, except_number}
use Rattle.taking.proofs.take.+both_chosen_tagged_take_without.Goals as goal

pub take-returns-then-left-eq0 : goal.take-returns-then-left-eq0
unfolding rules
take-returns-then-left-eq0 t c =
    rw c.of.ensures (deep_taken _ _ _ c.if-left-eq0.true)

pub take-take-requires : goal.take-take-requires
unfolding rules
take-take-requires t c =
    visit_shift c.decreases c.if-left-eq0.false
    _ _ c.requires.roomy (checked_by c.requires.reading c.in-Shift.is shift_small)
    (reads_one c.requires.reading (parts_by c.requires.reading c.in-Shift.is))

pub take-tagged-requires : goal.take-tagged-requires
unfolding rules
take-tagged-requires t c =
    visit_tagged c.decreases
    c.if-left-eq0.false _ _ c.requires.roomy (reads_two c.requires.reading (parts_by c.requires.reading c.in-Or.is))

pub take-both-requires : goal.take-both-requires
unfolding rules
take-both-requires t c =
    visit_shape c.decreases c.if-left-eq0.false
    _ _ c.requires.roomy (reads_two c.requires.reading (parts_by c.requires.reading c.in-Cons.is))

pub take-chosen-requires : goal.take-chosen-requires
unfolding rules
take-chosen-requires t c =
    visit_shape c.decreases c.if-left-eq0.false
    _ _ c.requires.roomy (choosing c.requires.reading c.in-Dep.is)

pub take-without-requires : goal.take-without-requires
unfolding rules
take-without-requires t c =
    visit_shape c.decreases c.if-left-eq0.false
    _ _ c.requires.roomy (
      reads_one c.requires.reading (parts_by c.requires.reading c.in-Except.is),
      checked_by c.requires.reading c.in-Except.is except_small,
    )

pub take-take-requires-in-Fix : goal.take-take-requires-in-Fix
unfolding rules
take-take-requires-in-Fix t c =
    visit_part c.decreases c.if-left-eq0.false
    _ _ c.requires.roomy (reads_one c.requires.reading (parts_by c.requires.reading c.in-Fix.is))

pub take-take-requires-in-Again : goal.take-take-requires-in-Again
unfolding rules
take-take-requires-in-Again t c =
    visit_part c.decreases c.if-left-eq0.false
    _ _ c.requires.roomy (reads_one c.requires.reading (parts_by c.requires.reading c.in-Again.is))

pub take-returns-in-Below : goal.take-returns-in-Below
unfolding rules
take-returns-in-Below t c =
    rw c.exactly.ensures (tree_taken _ _ _ c.if-left-eq0.false (tree_by c.requires.reading c.in-Below.is) (omega arith) (c.counted.ensures.reads _))

pub take-returns-in-Nats : goal.take-returns-in-Nats
unfolding rules
take-returns-in-Nats t c =
    rw c.of-in-Nats.ensures (tree_taken _ _ _ c.if-left-eq0.false (tree_by c.requires.reading c.in-Nats.is) (omega arith) (c.any.ensures _))

pub take-returns-in-Pool : goal.take-returns-in-Pool
unfolding rules
take-returns-in-Pool t c =
    rw c.exactly-in-Pool.ensures (tree_taken _ _ _ c.if-left-eq0.false (tree_by c.requires.reading c.in-Pool.is) (omega arith) (c.listed.ensures _))

pub take-returns-in-Shift : goal.take-returns-in-Shift
unfolding rules
take-returns-in-Shift t c =
    pass_taken _ _ _
    c.if-left-eq0.false (tree_by c.requires.reading c.in-Shift.is) refl (omega arith) c.take.ensures

pub take-returns-in-Or : goal.take-returns-in-Or
unfolding rules
take-returns-in-Or t c =
    rw c.of-in-Or.ensures (tree_taken _ _ _ c.if-left-eq0.false (tree_by c.requires.reading c.in-Or.is) (omega arith) c.tagged.ensures)

pub take-returns-in-Cons : goal.take-returns-in-Cons
unfolding rules
take-returns-in-Cons t c =
    rw c.of-in-Cons.ensures (tree_taken _ _ _ c.if-left-eq0.false (tree_by c.requires.reading c.in-Cons.is) (omega arith) c.both.ensures)

pub take-returns-in-Dep : goal.take-returns-in-Dep
unfolding rules
take-returns-in-Dep t c =
    rw c.of-in-Dep.ensures (tree_taken _ _ _ c.if-left-eq0.false (tree_by c.requires.reading c.in-Dep.is) (omega arith) c.chosen.ensures)

pub take-returns-in-Except : goal.take-returns-in-Except
unfolding rules
take-returns-in-Except t c =
    rw c.of-in-Except.ensures (tree_taken _ _ _ c.if-left-eq0.false (tree_by c.requires.reading c.in-Except.is) (omega arith) c.without.ensures)

pub take-returns-in-Fix : goal.take-returns-in-Fix
unfolding rules
take-returns-in-Fix t c =
    pass_taken _ _ _ c.if-left-eq0.false
    (tree_by c.requires.reading c.in-Fix.is) (sym (add-zero _)) (omega arith) c.take-in-Fix.ensures

pub take-returns-in-Again : goal.take-returns-in-Again
unfolding rules
take-returns-in-Again t c =
    pass_taken _ _ _ c.if-left-eq0.false
    (tree_by c.requires.reading c.in-Again.is) (sym (add-zero _)) (omega arith) c.take-in-Again.ensures

pub both-returns-in-None : goal.both-returns-in-None
unfolding rules
both-returns-in-None t c =
    let x = read_none c.take.ensures c.in_ok-first.ensures c.in-None.is in
    (cons_past _ _ _ _ _ _ x c.requires.reading (omega arith) c.take-2.ensures (read_ok _ c.in_ok-second.ensures) (omega arith))

pub both-returns-in-None-second : goal.both-returns-in-None-second
unfolding rules
both-returns-in-None-second t c =
    let y = read_none c.take-2.ensures c.in_ok-second.ensures c.in-None-second.is in
    (cons_stays _ _ _ _ _ _ c.take.ensures c.requires.reading (read_ok _ c.in_ok-first.ensures) y (omega arith))

pub both-returns-in-Some-second : goal.both-returns-in-Some-second
unfolding rules
both-returns-in-Some-second t c =
    let x = read_some c.take.ensures c.in_ok-first.ensures c.in-Some.is in
    let y = read_some c.take-2.ensures c.in_ok-second.ensures c.in-Some-second.is in
    cons_number _ _ _ _ _ _ x.0 c.requires.reading (omega (arith, x.1)) y.0 y.1 x.1 (ap word_of c.join.ensures)

pub both-returns-in_err-first : goal.both-returns-in_err-first
unfolding rules
both-returns-in_err-first t c =
    let p = err_from_is_err_and c.from_residual.result c.from_residual.ensures.1 in
    rw (p.1, p.2) (cons_stops _ _ _ _ _ _ (read_err c.take.ensures _ c.in_err-first.ensures) (unread_over _))

pub both-returns-in_err-second : goal.both-returns-in_err-second
unfolding rules
both-returns-in_err-second t c =
    let p = err_from_is_err_and c.from_residual-in_err-second.result c.from_residual-in_err-second.ensures.1 in
    let y = read_err c.take-2.ensures _ c.in_err-second.ensures in
    rw (p.1, p.2) (cons_stays _ _ _ _ _ _ c.take.ensures c.requires.reading (read_ok _ c.in_ok-first.ensures) y (omega (arith, unread_over c.in_err-second.field-0.0)))

pub chosen-bounds-from-b : goal.chosen-bounds-from-b
unfolding rules
chosen-bounds-from-b t c =
    let d = c.requires.choosing in
    let x = read_some c.take.ensures c.in_ok-x.ensures c.in-Some.is in
    let low = dep_first d _ _ x.0 (omega (arith, x.1)) in
    let q = second_place d _ low.1 in
    omega (arith, q.0, q.1)

pub chosen-join-requires : goal.chosen-join-requires
unfolding rules
chosen-join-requires t c =
    let d = c.requires.choosing in
    let x = read_some c.take.ensures c.in_ok-x.ensures c.in-Some.is in
    let low = dep_first d _ _ x.0 (omega (arith, x.1)) in
    (d.words, low.1)

pub chosen-offset_bounds-from-b : goal.chosen-offset_bounds-from-b
unfolding rules
chosen-offset_bounds-from-b t c =
    let d = c.requires.choosing in
    let x = read_some c.take.ensures c.in_ok-x.ensures c.in-Some.is in
    let low = dep_first d _ _ x.0 (omega (arith, x.1)) in
    let q = second_place d _ low.1 in
    omega (arith, q.0, q.1)

pub chosen-returns-in-None : goal.chosen-returns-in-None
unfolding rules
chosen-returns-in-None t c =
    (dep_stops c.requires.choosing _ _ (read_none c.take.ensures c.in_ok-x.ensures c.in-None.is) (omega arith))

pub chosen-returns-in-None-2 : goal.chosen-returns-in-None-2
unfolding rules
chosen-returns-in-None-2 t c =
    let d = c.requires.choosing in
    let x = read_some c.take.ensures c.in_ok-x.ensures c.in-Some.is in
    let low = dep_first d _ _ x.0 (omega (arith, x.1)) in
    (dep_stays d _ _ x.0 low (read_none c.take-in-Some.ensures c.in_ok-y-in-Some.ensures c.in-None-2.is) (omega arith))

pub chosen-returns-in-Some-2 : goal.chosen-returns-in-Some-2
unfolding rules
chosen-returns-in-Some-2 t c =
    let d = c.requires.choosing in
    let x = read_some c.take.ensures c.in_ok-x.ensures c.in-Some.is in
    let low = dep_first d _ _ x.0 (omega (arith, x.1)) in
    let y = read_some c.take-in-Some.ensures c.in_ok-y-in-Some.ensures c.in-Some-2.is in
    dep_number d _ _ x.0 low y.0 y.1 (ap word_of c.join.ensures)

pub chosen-returns-in_err-x : goal.chosen-returns-in_err-x
unfolding rules
chosen-returns-in_err-x t c =
    let p = err_from_is_err_and c.from_residual.result c.from_residual.ensures.1 in
    rw (p.1, p.2) (dep_stops c.requires.choosing _ _ (read_err c.take.ensures _ c.in_err-x.ensures) (omega (arith, unread_over c.in_err-x.field-0.0)))

pub chosen-returns-in_err-y-in-Some : goal.chosen-returns-in_err-y-in-Some
unfolding rules
chosen-returns-in_err-y-in-Some t c =
    let d = c.requires.choosing in
    let x = read_some c.take.ensures c.in_ok-x.ensures c.in-Some.is in
    let low = dep_first d _ _ x.0 (omega (arith, x.1)) in
    let p = err_from_is_err_and c.from_residual-in_err-y-in-Some.result c.from_residual-in_err-y-in-Some.ensures.1 in
    let y = read_err c.take-in-Some.ensures _ c.in_err-y-in-Some.ensures in
    rw (p.1, p.2) (dep_stays d _ _ x.0 low y (omega (arith, unread_over c.in_err-y-in-Some.field-0.0)))

pub chosen-take-requires-in-Some : goal.chosen-take-requires-in-Some
unfolding rules
chosen-take-requires-in-Some t c =
    let d = c.requires.choosing in
    let x = read_some c.take.ensures c.in_ok-x.ensures c.in-Some.is in
    let low = dep_first d _ _ x.0 (omega (arith, x.1)) in
    part_next c.decreases c.requires.roomy.0 (x.0.inside (omega (arith, x.1))) c.requires.roomy.3 (d.seconds _ low.1)

pub tagged-returns-in-None : goal.tagged-returns-in-None
unfolding rules
tagged-returns-in-None t c =
    let m = read_none c.take.ensures c.in_ok-m.ensures c.in-None.is in
    (or_stays _ _ _ _ _ _ c.in_ok-tag.ensures.reads c.in_ok-tag.ensures.low c.sides_of-s.ensures.0 m (omega arith))

pub tagged-returns-in-Some : goal.tagged-returns-in-Some
unfolding rules
tagged-returns-in-Some t c =
    let m = read_some c.take.ensures c.in_ok-m.ensures c.in-Some.is in
    or_number _ _ _ _ _ _ c.in_ok-tag.ensures.reads c.in_ok-tag.ensures.low c.sides_of-s.ensures.0 m.0 m.1 c.sides_of-s.ensures.1 (ap word_of c.join.ensures)

pub tagged-returns-in_err-m : goal.tagged-returns-in_err-m
unfolding rules
tagged-returns-in_err-m t c =
    let p = err_from_is_err_and c.from_residual-in_err-m.result c.from_residual-in_err-m.ensures.1 in
    let m = read_err c.take.ensures _ c.in_err-m.ensures in
    rw (p.1, p.2)
    (or_stays _ _ _ _ _ _ c.in_ok-tag.ensures.reads c.in_ok-tag.ensures.low c.sides_of-s.ensures.0 m (omega (arith, unread_over c.in_err-m.field-0.0)))

pub tagged-returns-in_err-tag : goal.tagged-returns-in_err-tag
unfolding rules
tagged-returns-in_err-tag t c =
    let p = err_from_is_err_and c.from_residual.result c.from_residual.ensures.1 in
    rw (p.1, p.2) (or_stops _ _ _ _ _ _ c.in_err-tag.ensures.reads (unread_over _))

pub tagged-take-requires : goal.tagged-take-requires
unfolding rules
tagged-take-requires t c =
    part_next c.decreases c.requires.left_bound.0 (tag_inside _ c.in_ok-tag.ensures.reads (omega (arith, c.in_ok-tag.ensures.low))) c.requires.left_bound.2
    (side_of (Reading _ _) _ _ c.requires.reading c.in_ok-tag.tag c.sides_of-s.ensures.0)

pub without-returns-else-m-b : goal.without-returns-else-m-b
unfolding rules
without-returns-else-m-b t c =
    let m = read_some c.take.ensures c.in_ok-m.ensures c.in-Some.is in
    except_number _ _ _ _ _ _ m.0 m.1 c.if-m-b.false (ap word_of c.join.ensures)

pub without-returns-in-None : goal.without-returns-in-None
unfolding rules
without-returns-in-None t c =
    let m = read_none c.take.ensures c.in_ok-m.ensures c.in-None.is in
    (except_stays _ _ _ _ _ _ m c.requires.roomy.0 c.requires.reading.1 (omega arith))

pub without-returns-in_err-m : goal.without-returns-in_err-m
unfolding rules
without-returns-in_err-m t c =
    let p = err_from_is_err_and c.from_residual.result c.from_residual.ensures.1 in
    let m = read_err c.take.ensures _ c.in_err-m.ensures in
    rw (p.1, p.2) (except_stays _ _ _ _ _ _ m c.requires.roomy.0 c.requires.reading.1 (omega (arith, unread_over c.in_err-m.field-0.0)))

pub without-returns-then-m-b : goal.without-returns-then-m-b
unfolding rules
without-returns-then-m-b t c =
    let m = read_some c.take.ensures c.in_ok-m.ensures c.in-Some.is in
    except_unfit _ _ _ _ _ _ m.0 m.1 c.if-m-b.true

pub take-listed-requires-clause-b_bound : goal.take-listed-requires-clause-b_bound
unfolding rules
take-listed-requires-clause-b_bound t c =
    let in_pool = checked_by c.requires.reading c.in-Pool.is pool_in in (in_pool.0, in_pool.1, c.requires.reading.walks.slight)
