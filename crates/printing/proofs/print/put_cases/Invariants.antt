-- `printing::print::put_cases` goes from number to number, each further on in the text.
-- Assumes nothing.
use Prim.Native.Nat.{◌-◌}
use lib.ListN.{length}
use Rattle.printing.proofs.print.Cases.{Going}
use Rattle.printing.proofs.print.put_cases.Given as goal

abbrev pub invariant-loop-one : goal.invariant-loop-one
invariant-loop-one l = Going l.text l.from l.asked.table.now l.asked.pool.now l.asked.start l.initial.page l.page l.at

abbrev pub decreases-loop-one : goal.decreases-loop-one
decreases-loop-one l = length l.text - l.at
