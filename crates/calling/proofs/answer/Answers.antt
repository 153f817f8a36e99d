use mathlib.Core.Path.{refl}
use Rattle.texts.proofs.page.Putting.{told}
use Rattle.calling.proofs.Input.{answer_none, answer_less, answer_more, answer_all, answer_not}
use Rattle.calling.proofs.answer.Goals as goal

pub returns-then-not-readable : goal.returns-then-not-readable
returns-then-not-readable c =
    told (search answer_not) c.unreadable.ensures

pub loop-at-init : goal.loop-at-init
loop-at-init c =
    answer_none refl

pub loop-at-smaller : goal.loop-at-smaller
loop-at-smaller c =
    search answer_less

pub loop-at-preserved : goal.loop-at-preserved
loop-at-preserved c =
    search answer_more

pub returns : goal.returns
returns c =
    search answer_all
