-- The largest root that a walk has, that of the limit.
--   top_small   that root is three bytes long
--   in_range    a number whose power is within the limit is at most that root
--   fits, word  the power of the next number is a word still, and so is its own
-- Assumes nothing.
use Prim.Native.Nat.{ℕ, zero, suc, ◌+◌, ◌^◌, ◌≤◌, ◌<◌}
use native.Mathlib.Omega.{arith}
use Rattle.numbers.specs.Joined.{limit}
use Rattle.numbers.specs.Power.{root_by, root_of}
use Rattle.numbers.proofs.power.Powers.{pow_le, root_is}

by_count : (P : ℕ → Type 0) → P 3 → P 4 → P 5 → P 6 → P 7 → P 8 → (t : ℕ) → 3 ≤ t → t ≤ 8 → P t
by_count P a b c d e f zero l h = absurd (omega arith)
by_count P a b c d e f (suc zero) l h = absurd (omega arith)
by_count P a b c d e f (suc (suc zero)) l h = absurd (omega arith)
by_count P a b c d e f (suc (suc (suc zero))) l h = a
by_count P a b c d e f (suc (suc (suc (suc zero)))) l h = b
by_count P a b c d e f (suc (suc (suc (suc (suc zero))))) l h = c
by_count P a b c d e f (suc (suc (suc (suc (suc (suc zero)))))) l h = d
by_count P a b c d e f (suc (suc (suc (suc (suc (suc (suc zero))))))) l h = e
by_count P a b c d e f (suc (suc (suc (suc (suc (suc (suc (suc zero)))))))) l h = f
by_count P a b c d e f (suc (suc (suc (suc (suc (suc (suc (suc (suc t))))))))) l h = absurd (omega arith)

-- six computed tests
abbrev Top : ℕ → Type 0
Top t = ((root_of t limit + 1) ^ t < 2 ^ 63) × (root_of t limit < 2 ^ 24)

top : (t : ℕ) → 3 ≤ t → t ≤ 8 → Top t
unfolding root_of root_by
top =
    by_count Top
    (omega arith)
    (omega arith)
    (omega arith)
    (omega arith)
    (omega arith)
    (omega arith)

module _ (t : ℕ) (l : 3 ≤ t) (h : t ≤ 8) where
  pub top_small : root_of t limit < 2 ^ 24
  top_small = (top t l h).1

  pub in_range : (n r : ℕ) → n ≤ limit → r ^ t ≤ n → r ≤ root_of t limit
  in_range n r k e =
      let s = root_of t limit in
      let no : s < r → ⊥ = λ lt. omega (arith, pow_le t {a = s + 1} {b = r} (omega arith), (root_is t limit (omega arith)).most) in
      omega arith

  pub fits : (r : ℕ) → r ≤ root_of t limit → (r + 1) ^ t < 2 ^ 63
  fits r k = omega (arith, pow_le t {a = r + 1} {b = root_of t limit + 1} (omega arith), (top t l h).0)

  pub word : (r : ℕ) → r ≤ root_of t limit → r ^ t < 2 ^ 63
  word r k = omega (arith, pow_le t {a = r} {b = r + 1} (omega arith), fits r k)
