-- `numbers::tuple::spread` goes by the recursion of a list by its place.
-- Assumes nothing.
use lib.ListN.{length}
use Rattle.numbers.proofs.tuple.Spreading.{Spread}
use Rattle.numbers.proofs.tuple.spread.Given as goal

abbrev pub invariant-loop-j : goal.invariant-loop-j
invariant-loop-j l = Spread (length l.fn.parts) l.r l.d l.parts l.left l.seen l.j
