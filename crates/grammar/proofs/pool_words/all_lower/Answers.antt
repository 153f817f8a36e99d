-- `grammar::pool_words::all_lower` is the test of each word.
-- Assumes nothing.
use Rattle.std.proofs.Common.{refl, rules, ltb}
use Rattle.std.proofs.lemmas.List.Recursion.{and_is}
use Rattle.grammar.specs.Checks.{all_lower}
use Rattle.lists.specs.Lists.{every}
use Rattle.grammar.proofs.pool_words.all_lower.Goals as goal

pub returns : goal.returns
unfolding every
returns c =
    and_is (all_lower c.args.n) (λ x. ltb x c.args.n) refl (λ _ _. refl) c.args.words.now 0 _ (search rules) (search rules)
