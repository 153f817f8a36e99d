-- `grammar::kinds::skips` says which kinds are excepts.
-- Assumes nothing.
use mathlib.Core.Path.{refl, ◌∙◌}
use mathlib.Core.Logic.{⊎_elim}
use Rattle.std.proofs.lemmas.Bool.{ne_eqb}
use Rattle.lists.proofs.Order.{same?}
use Rattle.grammar.specs.kinds.{kinds, unknown}
use Rattle.grammar.proofs.KindLaw.{Plain, each_but}
use Rattle.grammar.proofs.laws.{rules, plains}
use Rattle.grammar.proofs.kinds.skips.Goals as goal

pub returns : goal.returns
unfolding rules
returns c =
    λ a b p z. ⊎_elim (λ e. rw e) (λ f. ne_eqb c.args.kind 7 f ∙ each_but Plain kinds unknown 7 plains (λ a b p z. refl) _ f a b p z) (same? c.args.kind 7)
