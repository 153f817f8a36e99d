-- `numbers::size::product` is the product of two sizes, or none past 2^62.
-- Assumes nothing.
use mathlib.Core.Path.{◌≡◌}
use Prim.Native.Nat.{ℕ, ◌^◌, ◌<◌}
use native.Mathlib.Omega.{arith}
use borrow.Author.Tests.{lt-leb}
use Rattle.std.specs.Prelude.{None}
use Rattle.numbers.proofs.Tests.{tests}
use Rattle.numbers.proofs.size.SizeWords.{sized_finite}
use Rattle.numbers.specs.Size.{finite, times, size_of, measured}
use Rattle.numbers.proofs.size.product.Goals as goal
use Rattle.numbers.proofs.size.product.Goals.{then-s-ge-ENDLESS-via-then-s-ge-ENDLESS, then-s-ge-ENDLESS-via-else-s-ge-ENDLESS+then-t-ge-ENDLESS}

past : (n : ℕ) → 2 ^ 62 < n → None ≡ measured (finite n)
unfolding measured
past n h = rw (lt-leb n (2 ^ 62) h)

pub returns-then-s-ge-ENDLESS : goal.returns-then-s-ge-ENDLESS
unfolding times size_of measured
returns-then-s-ge-ENDLESS c =
    elim c.then-s-ge-ENDLESS.branch [
      | then-s-ge-ENDLESS-via-then-s-ge-ENDLESS w ↦ search tests
      | then-s-ge-ENDLESS-via-else-s-ge-ENDLESS+then-t-ge-ENDLESS w ↦ search tests
    ]

pub returns-in_err-checked_mul : goal.returns-in_err-checked_mul
unfolding times
returns-in_err-checked_mul c =
    rw (sized_finite c.args.s c.if-s-ge-ENDLESS.false, sized_finite c.args.t c.if-t-ge-ENDLESS.false, c.from_residual.ensures)
    (past _ (omega (arith, c.in_err-checked_mul.ensures)))

pub returns : goal.returns
unfolding times
returns c =
    rw (sized_finite c.args.s c.if-s-ge-ENDLESS.false, sized_finite c.args.t c.if-t-ge-ENDLESS.false, ← c.in_ok-checked_mul.ensures.1) c.measured.ensures
