use Rattle.asking.proofs.Buffers.{look_more, look_changed, look_all}
use Rattle.asking.proofs.buffer.changed_from.Goals as goal

pub returns-then-buffer-i : goal.returns-then-buffer-i
returns-then-buffer-i c =
    look_changed c.loop-i.invariant c.loop-i-test.true c.start_word.ensures
    c.if-buffer-i.true

pub loop-i-preserved : goal.loop-i-preserved
loop-i-preserved c =
    look_more c.loop-i.invariant c.loop-i-test.true c.start_word.ensures
    c.if-buffer-i.false

pub returns : goal.returns
returns c =
    look_all c.loop-i.invariant c.loop-i-test.false
