-- What is known of a capped number.
--   exact, big         which it is, as the number is below the limit or not; is_big the same as the code gives it
--   of_some, of_none   and back
-- Assumes nothing.
use mathlib.Core.Path.{◌≡◌, refl, sym}
use mathlib.Core.Bool.{Bool, true, false}
use Prim.Native.Nat.{ℕ, ◌≤◌, ◌<◌}
use native.Mathlib.Omega.{arith}
use lib.Dec.{ltb}
use borrow.Author.Tests.{lt-ltb, le-ltb, ltb-true, ltb-false}
use Rattle.numbers.specs.Pick.{pick}
use Rattle.std.specs.Prelude.{Some, None}
use Rattle.numbers.specs.Joined.{limit, capped}

pub exact : (n : ℕ) → n < limit → capped n ≡ Some n
unfolding capped
exact n h = rw (lt-ltb n limit h)

pub big : (n : ℕ) → limit ≤ n → capped n ≡ None
unfolding capped
big n h = rw (le-ltb n limit h)

-- ---- as the code gives it
pub is_big : (n : ℕ) → limit ≤ n → None ≡ capped n
is_big n h = sym (big n h)

pub of_some : (n k : ℕ) → Some k ≡ capped n → (k ≡ n) × (n < limit)
unfolding capped
of_some n k e = by (ltb n limit) refl e
  where
    by : (q : Bool) → ltb n limit ≡ q → Some k ≡ pick q (Some n) None → (k ≡ n) × (n < limit)
    by true h e = (cc, ltb-true n limit h)
    by false h e = let no : ◌≡◌ {A = ℕ} 0 1 = cc in absurd (omega arith)

pub of_none : (n : ℕ) → None ≡ capped n → limit ≤ n
unfolding capped
of_none n e = by (ltb n limit) refl e
  where
    by : (q : Bool) → ltb n limit ≡ q → None ≡ pick q (Some n) None → limit ≤ n
    by true h e = let no : ◌≡◌ {A = ℕ} 0 1 = cc in absurd (omega arith)
    by false h e = ltb-false n limit h
