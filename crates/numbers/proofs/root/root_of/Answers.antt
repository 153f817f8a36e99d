-- `numbers::root::root_of` is the whole square root: of a small number from any guess, of another from one that is the root or more.
-- Assumes nothing.
use mathlib.Core.Path.{◌∙◌}
use Prim.Native.Nat.{ℕ, ◌+◌, ◌^◌, ◌<◌}
use native.Mathlib.Omega.{arith}
use Rattle.numbers.specs.Root.{root_by, root}
use Rattle.numbers.specs.Power.{root_of}
use Rattle.numbers.proofs.Words.{own_square}
use Rattle.numbers.proofs.root.WholeRoot.{root_is}
use Rattle.numbers.proofs.root.Square.{square_root, square_fits, searched}
use Rattle.numbers.proofs.root.root_of.Goals as goal

none : goal.returns-then-n-eq0
unfolding root root_by
none c = rw c.if-n-eq0.true

small : (n : ℕ) → n < 65536 → (root_of 2 n + 1) ^ 2 < 2 ^ 64
small n h =
    let r = root n in
    let l : r < 65536 = omega (arith, own_square r, (root_is n).within) in
    rw square_root (square_fits (r + 1) (omega arith))

pub returns-then-n-eq0 : goal.returns-then-n-eq0
returns-then-n-eq0 c =
    none c

pub up-requires : goal.up-requires
up-requires c =
    (omega arith, omega arith, c.down.ensures.within, small _ c.if-n-lt-SMALL.true)

pub returns-then-n-lt-SMALL : goal.returns-then-n-lt-SMALL
returns-then-n-lt-SMALL c =
    c.up.ensures ∙ square_root _

pub returns-then-n-lt-MIDDLE : goal.returns-then-n-lt-MIDDLE
returns-then-n-lt-MIDDLE c =
    searched c.step_above-nearer.ensures c.down-then-n-lt-MIDDLE.ensures.root

pub returns : goal.returns
returns c =
    searched c.step_above.ensures c.down-2.ensures.root
