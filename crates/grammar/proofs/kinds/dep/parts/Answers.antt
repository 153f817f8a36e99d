-- `grammar::kinds::dep::parts` is the split of a dep.
-- Assumes nothing.
use mathlib.Core.Path.{◌∙◌}
use Rattle.grammar.proofs.SecondsInTurn.{finite_split, endless_split}
use Rattle.grammar.proofs.kinds.dep.parts.Goals as goal

pub returns-then-plan-head-lt-ENDLESS : goal.returns-then-plan-head-lt-ENDLESS
returns-then-plan-head-lt-ENDLESS c =
    rw c.run.ensures at c.in_turn.ensures ∙ finite_split c.requires c.if-plan-head-lt-ENDLESS.true _

pub returns : goal.returns
returns c =
    c.split_endless.ensures ∙ endless_split c.requires c.if-plan-head-lt-ENDLESS.false _
