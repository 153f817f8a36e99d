-- `laying::sure::width_of` is a width of its node, by its kind.
-- Assumes nothing.
use mathlib.Core.Path.{refl}
use native.Mathlib.Omega.{arith}
use Rattle.numbers.specs.Or
use Rattle.grammar.proofs.laws.{rules}
use Rattle.walk.proofs.Nodes.{items_by}
use Rattle.laying.proofs.Sures.{part_most, width_cell, width_part, width_tag, width_two}
use Rattle.laying.proofs.sure.width_of.Goals as goal

pub overflow_add-max : goal.overflow_add-max
overflow_add-max c =
    omega (arith, c.max.ensures, part_most _ c.requires.widths c.in_ok-part-in-Or.ensures, part_most _ c.requires.widths c.in_ok-part-in-Or-2.ensures)

pub overflow_add-branch : goal.overflow_add-branch
overflow_add-branch c =
    omega (arith, part_most _ c.requires.widths c.in_ok-part-in-Cons.ensures, part_most _ c.requires.widths c.in_ok-part-in-Cons-2.ensures)

pub returns-in_ok-part-in-Or-2 : goal.returns-in_ok-part-in-Or-2
unfolding rules
returns-in_ok-part-in-Or-2 c =
    width_tag c.requires.widths c.in_ok-part-in-Or.ensures c.in_ok-part-in-Or-2.ensures
    (λ p n v. (Or.split _ _ n, items_by v c.in-Or.is refl)) c.max.ensures c.known.ensures

pub returns-in_ok-part-in-Cons-2 : goal.returns-in_ok-part-in-Cons-2
unfolding rules
returns-in_ok-part-in-Cons-2 c =
    width_two c.requires.widths c.in_ok-part-in-Cons.ensures c.in_ok-part-in-Cons-2.ensures
    (λ p n v. (_, items_by v c.in-Cons.is refl)) c.known-in-Cons.ensures

pub returns-in-Below : goal.returns-in-Below
unfolding rules
returns-in-Below c =
    width_cell c.requires.widths (λ p n v. (_, items_by v c.in-Below.is refl))

pub returns-in-Nats : goal.returns-in-Nats
unfolding rules
returns-in-Nats c =
    width_cell c.requires.widths (λ p n v. (_, items_by v c.in-Nats.is refl))

pub returns-in-Pool : goal.returns-in-Pool
unfolding rules
returns-in-Pool c =
    width_cell c.requires.widths (λ p n v. (_, items_by v c.in-Pool.is refl))

pub returns-in-Shift : goal.returns-in-Shift
unfolding rules
returns-in-Shift c =
    width_part c.requires.widths c.part.ensures (λ p n v. (_, _, items_by v c.in-Shift.is refl))

pub returns-in-Except : goal.returns-in-Except
unfolding rules
returns-in-Except c =
    width_part c.requires.widths c.part-in-Except.ensures (λ p n v. (_, _, items_by v c.in-Except.is refl))

pub returns-in-Fix : goal.returns-in-Fix
unfolding rules
returns-in-Fix c =
    width_part c.requires.widths c.part-in-Fix.ensures (λ p n v. (_, _, items_by v c.in-Fix.is refl))
