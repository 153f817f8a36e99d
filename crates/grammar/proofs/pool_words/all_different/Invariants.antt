-- `grammar::pool_words::all_different` compares each word with those after it.
-- Assumes nothing.
use Rattle.grammar.proofs.Repeats.{Differing}
use Rattle.grammar.proofs.pool_words.all_different.Given as goal

abbrev pub invariant-loop-i : goal.invariant-loop-i
invariant-loop-i l = Differing l.words l.i
