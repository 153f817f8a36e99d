-- The laws of except, of a part of size s without its number b.
--   split_below, split_kept   a number below one less is a part's number below s, and not b
--   join_split                join undoes split
--   join_below                a part's number below s that is not b gives a number below one less
--   split_join                split undoes join
--   join_least                a join gives at most one less than the part's number
-- Assumes nothing.
use mathlib.Core.Path.{◌≡◌}
use Prim.Native.Nat.{ℕ, ◌+◌, ◌-◌, ◌≤◌, ◌<◌}
use native.Mathlib.Omega.{arith}
use lib.Dec.{ltb}
use borrow.Author.Tests.{ltb-true, ltb-false, lt-ltb, le-ltb}
use Rattle.numbers.specs.Size.{Size, finite, endless, Below, less}
use Rattle.numbers.specs.Except.{split, join}
use Rattle.numbers.proofs.Tests.{pick_by}

module _ (P : ℕ → Type 0) (b n : ℕ) where
  by_split : (n < b → P n) → (b ≤ n → P (n + 1)) → P (split b n)
  unfolding split
  by_split f g = pick_by P (ltb n b) (λ e. f (ltb-true n b e)) (λ e. g (ltb-false n b e))

  by_join : (n < b → P n) → (b ≤ n → P (n - 1)) → P (join b n)
  unfolding join
  by_join f g = pick_by P (ltb n b) (λ e. f (ltb-true n b e)) (λ e. g (ltb-false n b e))

-- ---- 1
pub split_below : (s : Size) (b n : ℕ) → Below n (less s) → Below (split b n) s
unfolding less
split_below (finite s) b n h = by_split (λ m. m < s) b n (λ l. omega arith) (λ l. omega arith)
split_below endless b n h = tt

pub split_kept : (b n : ℕ) → split b n ≡ b → ⊥
split_kept b n = by_split (λ m. m ≡ b → ⊥) b n (λ l e. omega arith) (λ l e. omega arith)

-- ---- 2
pub join_split : (b n : ℕ) → join b (split b n) ≡ n
unfolding join
join_split b n = by_split (λ m. join b m ≡ n) b n (λ l. rw (lt-ltb n b l)) (λ l. rw (le-ltb (n + 1) b (omega arith)) (omega arith))

-- ---- 3
pub join_below : (s : Size) (b m : ℕ) → Below b s → Below m s → (m ≡ b → ⊥) → Below (join b m) (less s)
unfolding less
join_below (finite s) b m h k f = by_join (λ n. n < s - 1) b m (λ l. omega arith) (λ l. omega arith)
join_below endless b m h k f = tt

-- ---- 4
pub split_join : (b m : ℕ) → (m ≡ b → ⊥) → split b (join b m) ≡ m
unfolding split
split_join b m f = by_join (λ n. split b n ≡ m) b m (λ l. rw (lt-ltb m b l)) (λ l. rw (le-ltb (m - 1) b (omega arith)) (omega arith))

-- ---- 5
pub join_least : (b m : ℕ) → (m ≤ join b m + 1) × (join b m ≤ m)
join_least b m = by_join (λ n. (m ≤ n + 1) × (n ≤ m)) b m (λ l. omega arith) (λ l. omega arith)
