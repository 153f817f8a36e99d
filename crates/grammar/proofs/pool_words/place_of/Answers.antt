-- `grammar::pool_words::place_of` is a word's place among others.
-- Assumes nothing.
use mathlib.Core.Path.{◌∙◌}
use Rattle.std.proofs.Common.{rules, tests}
use Rattle.std.proofs.lemmas.Iterator.{YieldsList-from_slice}
use Rattle.std.proofs.lemmas.Iterator.Search.{position_from_yields_List}
use Rattle.grammar.proofs.Repeats.{position_placed}
use Rattle.grammar.proofs.pool_words.place_of.Goals as goal

pub returns : goal.returns
returns c =
    position_from_yields_List _ _ _ _ c.position.ensures.ran (YieldsList-from_slice c.args.words.now cc) (λ x b q k. search (rules, tests))
    ∙ position_placed c.args.c c.args.words.now
