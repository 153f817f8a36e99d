-- `numbers::cons::join_square` is the join of two endless parts, capped. Past the root of 2^62 it is at least its square.
-- Assumes nothing.
use mathlib.Core.Path.{◌≡◌, ap, ◌∙◌}
use Prim.Native.Nat.{ℕ, ◌+◌, ◌*◌, ◌^◌, ◌≤◌, ◌<◌, max}
use native.Mathlib.Nat.{mul-le-mul}
use native.Mathlib.Omega.{arith}
use lib.Dec.{ltb}
use borrow.Author.Tests.{ltb-true, ltb-false, lt-ltb, le-ltb}
use Rattle.numbers.specs.Size.{endless}
use Rattle.numbers.specs.Joined.{capped, limit}
use Rattle.numbers.specs.Cons.{join}
use Rattle.numbers.proofs.Tests.{pick_by}
use Rattle.numbers.proofs.joined.Capped.{is_big}
use Rattle.numbers.proofs.cons.join_square.Goals as goal

small : (x : ℕ) → x ≤ 2 ^ 31 → x * x ≤ 2 ^ 62
small x h = mul-le-mul {n₁ = x} {m₁ = x} {n₂ = 2 ^ 31} {m₂ = 2 ^ 31} h h

large : (x : ℕ) → 2 ^ 31 < x → limit ≤ x * x
large x h = omega (arith, mul-le-mul h h)

module _ (x y : ℕ) where
  less : x < y → y * y + x ≡ join endless endless x y
  unfolding join
  less h = rw (lt-ltb x y h)

  not_less : y ≤ x → x * x + x + y ≡ join endless endless x y
  unfolding join
  not_less h = rw (le-ltb x y h)

  past : 2 ^ 31 < max x y → limit ≤ join endless endless x y
  unfolding join
  past h =
      pick_by (λ n. limit ≤ n) (ltb x y)
      (λ e. let l = ltb-true x y e in omega (arith, large y (omega arith)))
      (λ e. let l = ltb-false x y e in omega (arith, large x (omega arith)))

pub returns-then-max-gt-ROOT_OF_LARGEST : goal.returns-then-max-gt-ROOT_OF_LARGEST
returns-then-max-gt-ROOT_OF_LARGEST c =
    is_big _ (past _ _ (omega arith))

pub returns-then-x-y : goal.returns-then-x-y
returns-then-x-y c =
    c.cap.ensures ∙ ap capped (less _ _ c.if-x-y.true)

pub returns-else-x-y : goal.returns-else-x-y
returns-else-x-y c =
    c.cap-else-x-y.ensures ∙ ap capped (not_less _ _ c.if-x-y.false)
