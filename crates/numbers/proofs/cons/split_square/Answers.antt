-- `numbers::cons::split_square` is the rule of cons for two endless parts.
-- Assumes nothing.
use mathlib.Core.Path.{◌≡◌}
use Prim.Native.Nat.{ℕ, ◌*◌, ◌-◌, ◌≤◌, ◌<◌}
use native.Mathlib.Omega.{arith}
use borrow.Author.Tests.{lt-ltb, le-ltb}
use Rattle.numbers.specs.Size.{endless}
use Rattle.numbers.specs.Root.{root}
use Rattle.numbers.specs.Cons.{pair, split}
use Rattle.numbers.proofs.root.WholeRoot.{root_is}
use Rattle.numbers.proofs.cons.split_square.Goals as goal

module _ (n r : ℕ) (e : r ≡ root n) where
  within : r * r ≤ n
  within = rw e (root_is n).within

  before : n - r * r < r → pair (n - r * r) r ≡ split endless endless n
  unfolding split
  before h = rw (← e, lt-ltb (n - r * r) r h)

  after : r ≤ n - r * r → pair r (n - r * r - r) ≡ split endless endless n
  unfolding split
  after h = rw (← e, le-ltb (n - r * r) r h)

pub overflow_mul-d : goal.overflow_mul-d
overflow_mul-d c =
    omega (arith, within _ _ c.root_of-r.ensures)

pub overflow_sub-d : goal.overflow_sub-d
overflow_sub-d c =
    within _ _ c.root_of-r.ensures

pub returns-then-d-r : goal.returns-then-d-r
returns-then-d-r c =
    before _ _ c.root_of-r.ensures c.if-d-r.true

pub returns-else-d-r : goal.returns-else-d-r
returns-else-d-r c =
    after _ _ c.root_of-r.ensures c.if-d-r.false
