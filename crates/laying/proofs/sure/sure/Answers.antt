use mathlib.Core.Path.{sym}
use native.Mathlib.Omega.{arith}
use borrow.Author.Tests.{leb-true}
use Rattle.laying.proofs.Sures.{widths_none, widths_more, sure_by}
use Rattle.laying.proofs.sure.sure.Goals as goal

pub loop-k-init : goal.loop-k-init
loop-k-init c =
    (widths_none _, omega arith)

pub loop-k-preserved : goal.loop-k-preserved
loop-k-preserved c =
    (widths_more c.loop-k.invariant.0 (omega arith) c.width_of.ensures, omega arith)

pub returns-in-Some : goal.returns-in-Some
returns-in-Some c =
    λ e. sure_by c.loop-k.invariant.0 (omega arith) (sym c.in-Some.is) (leb-true _ _ e)
