-- The laws of dep.
--   split_below   a number below the sum has a first number below the firsts, and a second number below that second's size
--   join_split    join undoes split
--   join_below    such part numbers give a number below the sum
--   split_join    split undoes join
--   join_least    no join gives less than a part's number, where no second is empty
-- Assumes nothing.
use mathlib.Core.Path.{◌≡◌}
use mathlib.Core.List.{List, [], ◌∷◌}
use Prim.Native.Nat.{ℕ, zero, suc, ◌+◌, ◌-◌, ◌≤◌, ◌<◌}
use native.Mathlib.Nat.{mod-lt, div-add-mod', mul-le-mul}
use native.Mathlib.Numerals.{add-one}
use native.Mathlib.Omega.{arith}
use lib.Arith.{digits_div, digits_mod}
use lib.Dec.{ltb}
use lib.ListN.{length, get_or, take}
use borrow.Author.Tests.{ltb-true, ltb-false, lt-ltb, le-ltb}
use Rattle.numbers.specs.Size.{Below, NotZero}
use Rattle.numbers.specs.Cons.{pair}
use Rattle.numbers.specs.Dep.{Seconds, finites, endlesses, total, size, firsts, second, after_first, in_turn, split, join}
use Rattle.numbers.specs.declared.cons.Pair.{Pair}
use Rattle.numbers.proofs.Tests.{pick_by}

-- a first number, and a number of its second
abbrev pub PairBelow : Seconds → Pair → Type 0
PairBelow s p = (p.first < firsts s) × Below p.second (second s p.first)

-- ---- one after the other
module _ (P : Pair → Type 0) (t : ℕ) (ts : List ℕ) (n : ℕ) where
  by_turn : (n < t → P (pair 0 n)) → (t ≤ n → P (after_first (in_turn ts (n - t)))) → P (in_turn (t ∷ ts) n)
  unfolding in_turn
  by_turn f g = pick_by P (ltb n t) (λ e. f (ltb-true n t e)) (λ e. g (ltb-false n t e))

after_below : (t : ℕ) (ts : List ℕ) (p : Pair) → PairBelow (finites ts) p → PairBelow (finites (t ∷ ts)) (after_first p)
unfolding length
after_below t ts p h = rw add-one (omega arith, h.1)

turn_below : (ts : List ℕ) (n : ℕ) → n < total ts → PairBelow (finites ts) (in_turn ts n)
unfolding total length
turn_below [] n h = absurd (omega arith)
turn_below (t ∷ ts) n h =
    let ih : t ≤ n → PairBelow (finites ts) (in_turn ts (n - t)) = λ l. turn_below ts (n - t) (omega arith) in
    by_turn (PairBelow (finites (t ∷ ts))) t ts n (λ l. (omega arith, l)) (λ l. after_below t ts (in_turn ts (n - t)) (ih l))

sum_before : List ℕ → Pair → ℕ
sum_before ts p = total (take p.first ts) + p.second

turn_back : (ts : List ℕ) (n : ℕ) → sum_before ts (in_turn ts n) ≡ n
unfolding sum_before in_turn total take
turn_back [] n = omega arith
turn_back (t ∷ ts) n =
    let ih = turn_back ts (n - t) in
    by_turn (λ p. sum_before (t ∷ ts) p ≡ n) t ts n (λ l. omega arith) (λ l. rw add-one (omega arith))

turn_sum : (ts : List ℕ) (x y : ℕ) → x < length ts → y < get_or ts x 0 → total (take x ts) + y < total ts
unfolding total take length
turn_sum [] x y h k = absurd (omega arith)
turn_sum (t ∷ ts) zero y h k = omega arith
turn_sum (t ∷ ts) (suc x) y h k = omega (arith, turn_sum ts x y (omega arith) k)

turn_again : (ts : List ℕ) (x y : ℕ) → x < length ts → y < get_or ts x 0 → in_turn ts (total (take x ts) + y) ≡ pair x y
unfolding in_turn total take length
turn_again [] x y h k = absurd (omega arith)
turn_again (t ∷ ts) zero y h k = let z : 0 + y ≡ y = omega arith in rw (z, lt-ltb y t k)
turn_again (t ∷ ts) (suc x) y h k =
    let n = t + total (take x ts) + y in
    let d : n - t ≡ total (take x ts) + y = omega arith in
    rw (le-ltb n t (omega arith), d, turn_again ts x y (omega arith) k, add-one)

-- ---- 1
pub split_below : (s : Seconds) (n : ℕ) → 0 < firsts s → Below n (size s) → PairBelow s (split s n)
unfolding split size
split_below (finites ts) n f h = turn_below ts n h
split_below (endlesses m) n f h = (mod-lt n f, tt)

-- ---- 2
pub join_split : (s : Seconds) (n : ℕ) → join s (split s n).first (split s n).second ≡ n
unfolding split join sum_before
join_split (finites ts) n = turn_back ts n
join_split (endlesses m) n = div-add-mod' n m

-- ---- 3
pub join_below : (s : Seconds) (x y : ℕ) → PairBelow s (pair x y) → Below (join s x y) (size s)
unfolding join size
join_below (finites ts) x y h = turn_sum ts x y h.0 h.1
join_below (endlesses m) x y h = tt

-- ---- 4
pub split_join : (s : Seconds) (x y : ℕ) → PairBelow s (pair x y) → split s (join s x y) ≡ pair x y
unfolding split join
split_join (finites ts) x y h = turn_again ts x y h.0 h.1
split_join (endlesses m) x y h = rw (digits_mod y h.0, digits_div y h.0)

-- ---- 5
sum_least : (ts : List ℕ) (x : ℕ) → x ≤ length ts → ((k : ℕ) → k < length ts → 0 < get_or ts k 0) → x ≤ total (take x ts)
unfolding total take length
sum_least ts zero h f = omega arith
sum_least [] (suc x) h f = absurd (omega arith)
sum_least (t ∷ ts) (suc x) h f = omega (arith, f 0 (omega arith), sum_least ts x (omega arith) (λ k l. f (suc k) (omega arith)))

pub join_least : (s : Seconds) (x y : ℕ) → x < firsts s → ((k : ℕ) → k < firsts s → NotZero (second s k)) → (x ≤ join s x y) × (y ≤ join s x y)
unfolding join
join_least (finites ts) x y h f = (omega (arith, sum_least ts x (omega arith) f), omega arith)
join_least (endlesses m) x y h f = (omega arith, omega (arith, mul-le-mul {n₁ = y} {m₁ = 1} {n₂ = y} {m₂ = m} (omega arith) (omega arith)))
