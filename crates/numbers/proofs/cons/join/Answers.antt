-- `numbers::cons::join` is the rule of cons, turned round and capped.
-- Assumes nothing.
use mathlib.Core.Path.{◌≡◌}
use Prim.Native.Nat.{ℕ, ◌+◌, ◌*◌, ◌^◌, ◌≤◌, ◌<◌}
use native.Mathlib.Omega.{arith}
use borrow.Author.Tests.{lt-ltb, le-ltb}
use Rattle.numbers.specs.Size.{endless, size_of}
use Rattle.numbers.specs.Cons.{join}
use Rattle.std.specs.Prelude.{Option}
use Rattle.numbers.proofs.cons.Arms.{first_fast, second_fast, both_endless}
use Rattle.numbers.specs.Joined.{capped}
use Rattle.numbers.proofs.cons.join.Goals as goal

module _ (i j x y : ℕ) (r : Option ℕ) where
  first : i < 2 ^ 63 → i < j → r ≡ capped (y * i + x) → r ≡ capped (join (size_of i) (size_of j) x y)
  unfolding join
  first h l e = first_fast (λ s t. capped (join s t x y)) i j r h e (rw (lt-ltb i j l) e)

  second : j < 2 ^ 63 → j ≤ i → r ≡ capped (x * j + y) → r ≡ capped (join (size_of i) (size_of j) x y)
  unfolding join
  second h l e = second_fast (λ s t. capped (join s t x y)) i j r h e (rw (le-ltb i j l) e)

  square : 2 ^ 63 ≤ i → 2 ^ 63 ≤ j → r ≡ capped (join endless endless x y) → r ≡ capped (join (size_of i) (size_of j) x y)
  square h l e = both_endless (λ s t. capped (join s t x y)) i j r h l e

pub returns-then-j-lt-ENDLESS : goal.returns-then-j-lt-ENDLESS
returns-then-j-lt-ENDLESS c =
    second _ _ _ _ _ c.if-j-lt-ENDLESS.true (omega arith) c.product_and.ensures

pub returns-then-j-i : goal.returns-then-j-i
returns-then-j-i c =
    square _ _ _ _ _ (omega arith) c.if-j-lt-ENDLESS.false c.join_square.ensures

pub returns-then-i-lt-ENDLESS : goal.returns-then-i-lt-ENDLESS
returns-then-i-lt-ENDLESS c =
    first _ _ _ _ _ c.if-i-lt-ENDLESS.true (omega arith) c.product_and-then-i-lt-ENDLESS.ensures

pub returns : goal.returns
returns c =
    square _ _ _ _ _ c.if-i-lt-ENDLESS.false (omega arith) c.join_square-2.ensures
