use Rattle.asking.proofs.Buffers.{fill_more, fill_all}
use Rattle.asking.proofs.buffer.fill.Goals as goal

pub loop-i-preserved : goal.loop-i-preserved
loop-i-preserved c =
    fill_more c.loop-i.invariant c.loop-i-test.true c.start_word.ensures

pub returns : goal.returns
returns c =
    fill_all c.loop-i.invariant c.loop-i-test.false
