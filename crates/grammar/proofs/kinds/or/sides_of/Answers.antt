-- `grammar::kinds::or::sides_of` goes by the tag.
-- Assumes nothing.
use borrow.Author.Tests.{eq-eqb, ne_eqb}
use Rattle.grammar.proofs.kinds.or.sides_of.Goals as goal

pub returns-then-tag-eq0 : goal.returns-then-tag-eq0
returns-then-tag-eq0 c =
    (rw (eq-eqb _ 0 c.if-tag-eq0.true), rw (eq-eqb _ 0 c.if-tag-eq0.true))

pub returns : goal.returns
returns c =
    (rw (ne_eqb _ 0 c.if-tag-eq0.false), rw (ne_eqb _ 0 c.if-tag-eq0.false))
