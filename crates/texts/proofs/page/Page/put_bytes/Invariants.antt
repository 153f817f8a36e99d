-- `texts::page::Page::put_bytes` has put the bytes so far.
-- Assumes nothing.
use Rattle.texts.proofs.page.Putting.{Putting}
use Rattle.texts.proofs.page.Page.put_bytes.Given as goal

abbrev pub invariant-loop-byte : goal.invariant-loop-byte
invariant-loop-byte l = Putting l.text l.initial.self l.self l.byte-index
