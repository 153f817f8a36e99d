-- `texts::numeral::value_of` is the value of digits: at each place, that of the digits so far and of those from there.
-- Assumes nothing.
use Rattle.texts.proofs.numeral.Values.{Valued}
use Rattle.texts.proofs.numeral.value_of.Given as goal

abbrev pub invariant-loop-byte : goal.invariant-loop-byte
invariant-loop-byte l = Valued l.digits l.value l.byte-index
