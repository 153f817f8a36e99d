use mathlib.Core.Path.{sym, ◌∙◌}
use native.Mathlib.Omega.{arith}
use Rattle.grammar.proofs.Sums.{turn_none, turn_lower, turn_endless, turn_adds, turn_past}
use Rattle.grammar.proofs.kinds.dep.seconds.Goals as goal
use Rattle.grammar.proofs.kinds.dep.seconds.Goals.{then-s-lt-ENDLESS+then-sum-le-LARGEST, then-s-lt-ENDLESS+else-sum-le-LARGEST, else-s-lt-ENDLESS}

pub loop-c-init : goal.loop-c-init
loop-c-init c =
    turn_none (sym c.all_lower.ensures ∙ c.in_ok-asks.ensures)

pub offset_bounds-plan-c : goal.offset_bounds-plan-c
offset_bounds-plan-c c =
    omega (arith, turn_lower c.loop-c.invariant c.loop-c-test.true)

pub bounds-plan-c : goal.bounds-plan-c
bounds-plan-c c =
    omega (arith, turn_lower c.loop-c.invariant c.loop-c-test.true)

pub loop-c-preserved : goal.loop-c-preserved
loop-c-preserved c =
    elim c.if-s-lt-ENDLESS.branch [
      | then-s-lt-ENDLESS+then-sum-le-LARGEST w ↦ rw (w.finite-is, w.sum-is) (search turn_adds)
      | then-s-lt-ENDLESS+else-sum-le-LARGEST w ↦ rw (w.finite-is, w.sum-is) (search turn_past)
      | else-s-lt-ENDLESS w ↦ rw (w.finite-is, w.sum-is) (search turn_endless)
    ]
