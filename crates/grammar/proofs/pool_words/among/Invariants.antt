-- `grammar::pool_words::among` looks at each word.
-- Assumes nothing.
use Rattle.grammar.proofs.Repeats.{Among}
use Rattle.grammar.proofs.pool_words.among.Given as goal

abbrev pub invariant-loop-w : goal.invariant-loop-w
invariant-loop-w l = Among l.words l.x l.seen l.w-index
