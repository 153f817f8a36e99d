-- `numbers::cons::split` is the rule of cons.
-- Assumes nothing.
use mathlib.Core.Path.{◌≡◌, refl}
use Prim.Native.Nat.{ℕ, ◌/◌, ◌%◌, ◌^◌, ◌≤◌, ◌<◌}
use native.Mathlib.Omega.{arith}
use borrow.Author.Tests.{lt-ltb, le-ltb}
use Rattle.numbers.specs.Size.{endless, size_of}
use Rattle.numbers.specs.Cons.{pair, split}
use Rattle.numbers.specs.declared.cons.Pair.{Pair}
use Rattle.numbers.proofs.cons.Arms.{first_fast, second_fast, both_endless}
use Rattle.numbers.proofs.cons.split.Goals as goal

module _ (i j n : ℕ) where
  first : i < 2 ^ 63 → i < j → pair (n % i) (n / i) ≡ split (size_of i) (size_of j) n
  unfolding split
  first h l = first_fast (λ s t. split s t n) i j _ h refl (rw (lt-ltb i j l))

  second : j < 2 ^ 63 → j ≤ i → pair (n / j) (n % j) ≡ split (size_of i) (size_of j) n
  unfolding split
  second h l = second_fast (λ s t. split s t n) i j _ h refl (rw (le-ltb i j l))

square : (i j n : ℕ) (p : Pair) → 2 ^ 63 ≤ i → 2 ^ 63 ≤ j → p ≡ split endless endless n → p ≡ split (size_of i) (size_of j) n
square i j n p = both_endless (λ s t. split s t n) i j p

pub returns-then-i-lt-ENDLESS : goal.returns-then-i-lt-ENDLESS
returns-then-i-lt-ENDLESS c =
    first _ _ _ (omega arith) (omega arith)

pub returns-then-i-j : goal.returns-then-i-j
returns-then-i-j c =
    square _ _ _ _ c.if-i-lt-ENDLESS.false (omega arith) c.split_square.ensures

pub returns-then-j-lt-ENDLESS : goal.returns-then-j-lt-ENDLESS
returns-then-j-lt-ENDLESS c =
    second _ _ _ c.if-j-lt-ENDLESS.true c.if-i-j.false

pub returns : goal.returns
returns c =
    square _ _ _ _ (omega arith) c.if-j-lt-ENDLESS.false c.split_square-2.ensures
