-- The laws of or.
--   split_below   a number below the sum is of a part, at a number below that part's size
--   join_split    join undoes split
--   join_below    a part's number below its size gives a number below the sum
--   split_join    split undoes join
--   join_least    no join gives less than the part's number
-- Assumes nothing.
use mathlib.Core.Path.{◌≡◌}
use Prim.Native.Nat.{ℕ, ◌+◌, ◌*◌, ◌-◌, ◌/◌, ◌%◌, ◌≤◌, ◌<◌}
use native.Mathlib.Nat.{add-sub_cancel}
use native.Mathlib.Omega.{arith}
use lib.Dec.{eqb, ltb, leb}
use borrow.Author.Tests.{ltb-true, ltb-false, leb-true, leb-false, eqb-true, eqb-false, lt-ltb, le-ltb, le-leb, lt-leb}
use Rattle.numbers.specs.Pick.{pick}
use Rattle.numbers.specs.Size.{Size, finite, endless, Below, plus}
use Rattle.numbers.specs.Or.{alternate, then_second, then_first, split, turn, join, PartBelow, in_part}
use Rattle.numbers.specs.declared.or.Part.{Part}
use Rattle.numbers.specs.declared.or.Part.TheVariants.{First, Second}
use Rattle.numbers.proofs.Tests.{pick_by}

-- ---- while they alternate
module _ (P : Part → Type 0) (n : ℕ) where
  by_turn : (n % 2 ≡ 0 → P (First (n / 2))) → ((n % 2 ≡ 0 → ⊥) → P (Second ((n - 1) / 2))) → P (alternate n)
  by_turn f g = pick_by P (eqb (n % 2) 0) (λ e. f (eqb-true (n % 2) 0 e)) (λ e. g (eqb-false (n % 2) 0 e))

  by_second : (s : ℕ) → (n < 2 * s → P (alternate n)) → (2 * s ≤ n → P (Second (n - s))) → P (then_second s n)
  by_second s f g = pick_by P (ltb n (2 * s)) (λ e. f (ltb-true n (2 * s) e)) (λ e. g (ltb-false n (2 * s) e))

  by_first : (t : ℕ) → (n < 2 * t → P (alternate n)) → (2 * t ≤ n → P (First (n - t))) → P (then_first t n)
  by_first t f g = pick_by P (ltb n (2 * t)) (λ e. f (ltb-true n (2 * t) e)) (λ e. g (ltb-false n (2 * t) e))

  by_shorter : (s t : ℕ) → (s ≤ t → P (then_second s n)) → (t < s → P (then_first t n)) → P (pick (leb s t) (then_second s n) (then_first t n))
  by_shorter s t f g = pick_by P (leb s t) (λ e. f (leb-true s t e)) (λ e. g (leb-false s t e))

-- ---- 1
pub split_below : (s t : Size) (n : ℕ) → Below n (plus s t) → PartBelow s t (split s t n)
unfolding split plus
split_below (finite s) (finite t) n h =
    let P = PartBelow (finite s) (finite t) in
    by_shorter P n s t
    (λ l. by_second P n s (λ a. by_turn P n (λ e. omega arith) (λ e. omega arith)) (λ a. omega arith))
    (λ l. by_first P n t (λ a. by_turn P n (λ e. omega arith) (λ e. omega arith)) (λ a. omega arith))
split_below (finite s) endless n h =
    let P = PartBelow (finite s) endless in
    by_second P n s (λ a. by_turn P n (λ e. omega arith) (λ e. tt)) (λ a. tt)
split_below endless (finite t) n h =
    let P = PartBelow endless (finite t) in
    by_first P n t (λ a. by_turn P n (λ e. tt) (λ e. omega arith)) (λ a. tt)
split_below endless endless n h = by_turn (PartBelow endless endless) n (λ e. tt) (λ e. tt)

-- ---- the join of each part's number, by whether the other part has lasted
turn_in : (b u m : ℕ) → m < u → turn b (finite u) m ≡ 2 * m + b
turn_in b u m h = rw (lt-ltb m u h)

turn_past : (b u m : ℕ) → u ≤ m → turn b (finite u) m ≡ m + u
turn_past b u m h = rw (le-ltb m u h)

-- ---- 2
pub join_split : (s t : Size) (n : ℕ) → join s t (split s t n) ≡ n
unfolding split join
join_split (finite s) (finite t) n =
    let P : Part → Type 0 = λ p. join (finite s) (finite t) p ≡ n in
    by_shorter P n s t
    (λ l. by_second P n s
    (λ a. by_turn P n (λ e. rw (turn_in 0 t (n / 2) (omega arith)) (omega arith)) (λ e. rw (turn_in 1 s ((n - 1) / 2) (omega arith)) (omega arith)))
    (λ a. rw (turn_past 1 s (n - s) (omega arith)) (omega arith)))
    (λ l. by_first P n t
    (λ a. by_turn P n (λ e. rw (turn_in 0 t (n / 2) (omega arith)) (omega arith)) (λ e. rw (turn_in 1 s ((n - 1) / 2) (omega arith)) (omega arith)))
    (λ a. rw (turn_past 0 t (n - t) (omega arith)) (omega arith)))
join_split (finite s) endless n =
    let P : Part → Type 0 = λ p. join (finite s) endless p ≡ n in
    by_second P n s
    (λ a. by_turn P n (λ e. omega arith) (λ e. rw (turn_in 1 s ((n - 1) / 2) (omega arith)) (omega arith)))
    (λ a. rw (turn_past 1 s (n - s) (omega arith)) (omega arith))
join_split endless (finite t) n =
    let P : Part → Type 0 = λ p. join endless (finite t) p ≡ n in
    by_first P n t
    (λ a. by_turn P n (λ e. rw (turn_in 0 t (n / 2) (omega arith)) (omega arith)) (λ e. omega arith))
    (λ a. rw (turn_past 0 t (n - t) (omega arith)) (omega arith))
join_split endless endless n = by_turn (λ (p : Part). join endless endless p ≡ n) n (λ e. omega arith) (λ e. omega arith)

-- ---- 3
pub join_below : (s t : Size) (p : Part) → PartBelow s t p → Below (join s t p) (plus s t)
unfolding join plus
join_below (finite s) (finite t) (First m) h = pick_by (λ n. n < s + t) (ltb m t) (λ e. omega (arith, ltb-true m t e)) (λ e. omega arith)
join_below (finite s) (finite t) (Second m) h = pick_by (λ n. n < s + t) (ltb m s) (λ e. omega (arith, ltb-true m s e)) (λ e. omega arith)
join_below (finite s) endless p h = tt
join_below endless t p h = tt

-- ---- 4
even_turn : (m : ℕ) → alternate (2 * m + 0) ≡ First m
even_turn m =
    let r : (2 * m + 0) % 2 ≡ 0 = omega arith in
    let h : (2 * m + 0) / 2 ≡ m = omega arith in
    rw (r, h)

odd_turn : (m : ℕ) → alternate (2 * m + 1) ≡ Second m
odd_turn m =
    let r : (2 * m + 1) % 2 ≡ 1 = omega arith in
    let h : (2 * m + 1 - 1) / 2 ≡ m = omega arith in
    rw (r, h)

pub split_join : (s t : Size) (p : Part) → PartBelow s t p → split s t (join s t p) ≡ p
unfolding split join
split_join (finite s) (finite t) (First m) h =
    pick_by (λ n. pick (leb s t) (then_second s n) (then_first t n) ≡ First m) (ltb m t)
    (λ e. let l = ltb-true m t e in
    pick_by (λ p. p ≡ First m) (leb s t) (λ u. rw (lt-ltb (2 * m + 0) (2 * s) (omega arith), even_turn m))
    (λ u. rw (lt-ltb (2 * m + 0) (2 * t) (omega arith), even_turn m)))
    (λ e. let l = ltb-false m t e in rw (lt-leb s t (omega arith), le-ltb (m + t) (2 * t) (omega arith), add-sub_cancel m t))
split_join (finite s) (finite t) (Second m) h =
    pick_by (λ n. pick (leb s t) (then_second s n) (then_first t n) ≡ Second m) (ltb m s)
    (λ e. let l = ltb-true m s e in
    pick_by (λ p. p ≡ Second m) (leb s t) (λ u. rw (lt-ltb (2 * m + 1) (2 * s) (omega arith), odd_turn m))
    (λ u. rw (lt-ltb (2 * m + 1) (2 * t) (omega arith), odd_turn m)))
    (λ e. let l = ltb-false m s e in rw (le-leb s t (omega arith), le-ltb (m + s) (2 * s) (omega arith), add-sub_cancel m s))
split_join (finite s) endless (First m) h = rw (lt-ltb (2 * m + 0) (2 * s) (omega arith), even_turn m)
split_join (finite s) endless (Second m) h =
    pick_by (λ n. then_second s n ≡ Second m) (ltb m s)
    (λ e. let l = ltb-true m s e in rw (lt-ltb (2 * m + 1) (2 * s) (omega arith), odd_turn m))
    (λ e. let l = ltb-false m s e in rw (le-ltb (m + s) (2 * s) (omega arith), add-sub_cancel m s))
split_join endless (finite t) (First m) h =
    pick_by (λ n. then_first t n ≡ First m) (ltb m t)
    (λ e. let l = ltb-true m t e in rw (lt-ltb (2 * m + 0) (2 * t) (omega arith), even_turn m))
    (λ e. let l = ltb-false m t e in rw (le-ltb (m + t) (2 * t) (omega arith), add-sub_cancel m t))
split_join endless (finite t) (Second m) h = rw (lt-ltb (2 * m + 1) (2 * t) (omega arith), odd_turn m)
split_join endless endless (First m) h = even_turn m
split_join endless endless (Second m) h = odd_turn m

-- ---- 5
pub turn_least : (b : ℕ) (u : Size) (m : ℕ) → m ≤ turn b u m
turn_least b (finite u) m = pick_by (λ n. m ≤ n) (ltb m u) (λ e. omega arith) (λ e. omega arith)
turn_least b endless m = omega arith

pub join_least : (s t : Size) (p : Part) → in_part p ≤ join s t p
unfolding join
join_least s t (First m) = turn_least 0 t m
join_least s t (Second m) = turn_least 1 s m
