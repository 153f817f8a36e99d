use native.Mathlib.Omega.{arith}
use Rattle.texts.proofs.line.Storing.{store_start, store_not, store_within, store_more}
use Rattle.texts.proofs.line.store.Goals as goal

pub loop-word-init : goal.loop-word-init
loop-word-init c =
    store_start c.requires

pub returns-in_default : goal.returns-in_default
returns-in_default c =
    absurd (store_not c.loop-word.invariant (omega arith) c.number_at.ensures c.in_default.is)

pub overflow_add-i : goal.overflow_add-i
overflow_add-i c =
    omega (arith, store_within c.loop-word.invariant (omega arith) c.number_at.ensures c.in-Some.is)

pub loop-word-preserved : goal.loop-word-preserved
loop-word-preserved c =
    store_more c.loop-word.invariant (omega arith) c.number_at.ensures c.in-Some.is
