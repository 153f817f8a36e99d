use Rattle.graph.proofs.Marks.{blank}
use Rattle.cycles.proofs.Safe.{pass_start, all_safe_lem}
use Rattle.cycles.proofs.safety.all_safe.Goals as goal

pub loop-left-init : goal.loop-left-init
loop-left-init c =
    rw c.count-left.ensures.count (pass_start (blank 256))

pub all_settled-requires : goal.all_settled-requires
all_settled-requires c =
    c.safe_pass-still.ensures.marked

pub returns-then-left-still : goal.returns-then-left-still
returns-then-left-still c =
    c.all_settled.ensures

pub returns : goal.returns
returns c =
    λ e. all_safe_lem c.count-left.ensures.ready c.loop-left.invariant c.loop-left-test.false
