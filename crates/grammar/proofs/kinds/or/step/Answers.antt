-- `grammar::kinds::or::step` is what a visit of an or shows.
-- Assumes nothing.
use mathlib.Core.Path.{sym, ap, ◌∙◌}
use Rattle.grammar.specs.kinds.Or.{tagged, or_rule}
use Rattle.grammar.proofs.kinds.or.step.Goals as goal

pub returns-in-First : goal.returns-in-First
unfolding or_rule
returns-in-First c =
    ap (tagged _ _) (sym c.split.ensures ∙ c.in-First.is)

pub returns-in-Second : goal.returns-in-Second
unfolding or_rule
returns-in-Second c =
    ap (tagged _ _) (sym c.split.ensures ∙ c.in-Second.is)
