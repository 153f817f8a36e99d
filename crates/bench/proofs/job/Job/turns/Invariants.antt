-- `bench::job::Job::turns` keeps the job as it is but for its table.
-- Assumes nothing.
use Rattle.std.proofs.Common.{◌≡◌}
use denote.Param.Always.{always_mut}
use Rattle.bench.proofs.job.Job.turns.Given as goal

abbrev pub invariant-loop-k : goal.invariant-loop-k
invariant-loop-k g l =
    (always_mut g.F.FnMut l.initial.turn → always_mut g.F.FnMut l.turn)
    × (l.self.start ≡ l.initial.self.start) × (l.self.limit ≡ l.initial.self.limit) × (l.self.times ≡ l.initial.self.times)
