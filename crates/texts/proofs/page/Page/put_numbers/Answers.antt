use Rattle.texts.proofs.page.Putting.{list_none, list_more, list_all}
use Rattle.texts.proofs.page.Page.put_numbers.Goals as goal

pub loop-n-init : goal.loop-n-init
loop-n-init c =
    list_none

pub loop-n-preserved : goal.loop-n-preserved
loop-n-preserved c =
    search list_more

pub returns : goal.returns
returns c =
    list_all c.loop-n.invariant c.loop-n-test.false
