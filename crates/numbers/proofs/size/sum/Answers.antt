-- `numbers::size::sum` is the sum of two sizes, or none past 2^62.
-- Assumes nothing.
use Rattle.numbers.proofs.Tests.{tests}
use Rattle.numbers.proofs.size.SizeWords.{sized_finite}
use Rattle.numbers.specs.Size.{plus, size_of, measured}
use Rattle.numbers.proofs.size.sum.Goals as goal
use Rattle.numbers.proofs.size.sum.Goals.{then-s-ge-ENDLESS-via-then-s-ge-ENDLESS, then-s-ge-ENDLESS-via-else-s-ge-ENDLESS+then-t-ge-ENDLESS}

pub returns-then-s-ge-ENDLESS : goal.returns-then-s-ge-ENDLESS
unfolding plus size_of measured
returns-then-s-ge-ENDLESS c =
    elim c.then-s-ge-ENDLESS.branch [
      | then-s-ge-ENDLESS-via-then-s-ge-ENDLESS w ↦ search tests
      | then-s-ge-ENDLESS-via-else-s-ge-ENDLESS+then-t-ge-ENDLESS w ↦ search tests
    ]

pub returns : goal.returns
unfolding plus
returns c =
    rw (sized_finite c.args.s c.if-s-ge-ENDLESS.false, sized_finite c.args.t c.if-t-ge-ENDLESS.false) c.measured.ensures
