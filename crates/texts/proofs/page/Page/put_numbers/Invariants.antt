-- `texts::page::Page::put_numbers` has put the numbers so far.
-- Assumes nothing.
use Rattle.texts.proofs.page.Putting.{Listing}
use Rattle.texts.proofs.page.Page.put_numbers.Given as goal

abbrev pub invariant-loop-n : goal.invariant-loop-n
invariant-loop-n l = Listing l.numbers l.initial.self l.self l.n-index
