use Rattle.texts.proofs.page.Putting.{put_none, put_more, put_all}
use Rattle.texts.proofs.page.Page.put_bytes.Goals as goal

pub loop-byte-init : goal.loop-byte-init
loop-byte-init c =
    put_none

pub loop-byte-preserved : goal.loop-byte-preserved
loop-byte-preserved c =
    put_more c.loop-byte.invariant c.loop-byte-test.true c.put_byte.ensures

pub returns : goal.returns
returns c =
    put_all c.loop-byte.invariant c.loop-byte-test.false
