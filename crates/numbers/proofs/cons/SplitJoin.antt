-- The laws of cons.
--   split_below   a number below the product has part numbers below the parts' sizes
--   join_split    join undoes split
--   join_below    part numbers below the parts' sizes give a number below the product
--   split_join    split undoes join
--   join_least    no join gives less than a part's number
-- Assumes nothing.
use mathlib.Core.Path.{◌≡◌}
use mathlib.Core.Bool.{Bool, true, false}
use Prim.Native.Nat.{ℕ, ◌+◌, ◌*◌, ◌-◌, ◌/◌, ◌%◌, ◌≤◌, ◌<◌}
use native.Mathlib.Nat.{mul_comm, mod-lt, div-add-mod', div-lt_iff_lt-mul, mul-le-mul}
use native.Mathlib.Omega.{arith}
use lib.Arith.{digits_lt, digits_div, digits_mod}
use lib.Dec.{ltb}
use borrow.Author.Tests.{ltb-true, ltb-false, lt-ltb, le-ltb}
use Rattle.numbers.specs.Pick.{pick}
use Rattle.numbers.specs.Size.{Size, finite, endless, Below, NotZero, times}
use Rattle.numbers.specs.Root.{root}
use Rattle.numbers.specs.Cons.{pair, edge, split, join}
use Rattle.numbers.specs.declared.cons.Pair.{Pair}
use Rattle.numbers.proofs.Tests.{pick_by}
use Rattle.numbers.proofs.Words.{own_square}
use Rattle.numbers.proofs.root.WholeRoot.{root_is, root_of}

abbrev PairBelow : Size → Size → Pair → Type 0
PairBelow i j p = Below p.first i × Below p.second j

-- ---- quotient and remainder
quotient_below : (n i j : ℕ) → 0 < j → n < i * j → n / j < i
quotient_below n i j p h = (div-lt_iff_lt-mul {k = j} {x = n} {y = i} p).1 h

-- ---- 1
pub split_below : (i j : Size) (n : ℕ) → NotZero i → NotZero j → Below n (times i j) → PairBelow i j (split i j n)
unfolding split times
split_below endless endless n a b h = (tt, tt)
split_below (finite i) endless n a b h = (mod-lt n a, tt)
split_below endless (finite j) n a b h = (tt, mod-lt n b)
split_below (finite i) (finite j) n a b h =
    let g : n < j * i = rw (mul_comm j i) h in
    pick_by (PairBelow (finite i) (finite j)) (ltb i j)
    (λ e. (mod-lt n a, quotient_below n j i a g))
    (λ e. (quotient_below n i j b h, mod-lt n b))

-- ---- 2
module _ (n r : ℕ) (w : r * r ≤ n) (m : n < (r + 1) * (r + 1)) where
  edge_back : join endless endless (edge r (n - r * r)).first (edge r (n - r * r)).second ≡ n
  unfolding join
  edge_back =
      pick_by (λ (p : Pair). join endless endless p.first p.second ≡ n) (ltb (n - r * r) r)
      (λ e. rw (lt-ltb (n - r * r) r (ltb-true (n - r * r) r e)) (omega arith))
      (λ e. let l = ltb-false (n - r * r) r e in rw (le-ltb r (n - r * r - r) (omega arith)) (omega arith))

pub join_split : (i j : Size) (n : ℕ) → join i j (split i j n).first (split i j n).second ≡ n
unfolding split
join_split endless endless n = edge_back n (root n) (root_is n).within (root_is n).most
join_split (finite i) endless n = unfold join in div-add-mod' n i
join_split endless (finite j) n = unfold join in div-add-mod' n j
join_split (finite i) (finite j) n = unfold join in by (ltb i j)
  where
    by : (q : Bool) → let p = pick q (pair (n % i) (n / i)) (pair (n / j) (n % j)) in pick q (p.second * i + p.first) (p.first * j + p.second) ≡ n
    by true = div-add-mod' n i
    by false = div-add-mod' n j

-- ---- 3
pub join_below : (i j : Size) (x y : ℕ) → Below x i → Below y j → Below (join i j x y) (times i j)
unfolding join times
join_below endless endless x y a b = tt
join_below (finite i) endless x y a b = tt
join_below endless (finite j) x y a b = tt
join_below (finite i) (finite j) x y a b =
    pick_by (λ n. n < i * j) (ltb i j) (λ e. rw (mul_comm i j) (digits_lt b a)) (λ e. digits_lt a b)

-- ---- 4
square_join : (x y : ℕ) → split endless endless (join endless endless x y) ≡ pair x y
unfolding split join
square_join x y =
    pick_by (λ n. edge (root n) (n - root n * root n) ≡ pair x y) (ltb x y)
    (λ e. let l = ltb-true x y e in let d : y * y + x - y * y ≡ x = omega arith in rw (root_of y x (omega arith), d, e))
    (λ e.
    let l = ltb-false x y e in
    let g : x * x + x + y ≡ x * x + (x + y) = omega arith in
    let d : x * x + (x + y) - x * x ≡ x + y = omega arith in
    let s : x + y - x ≡ y = omega arith in
    rw (g, root_of x (x + y) (omega arith), d, le-ltb (x + y) x (omega arith), s))

pub split_join : (i j : Size) (x y : ℕ) → Below x i → Below y j → split i j (join i j x y) ≡ pair x y
split_join endless endless x y a b = square_join x y
split_join (finite i) endless x y a b = unfold split join in rw (digits_mod y a, digits_div y a)
split_join endless (finite j) x y a b = unfold split join in rw (digits_mod x b, digits_div x b)
split_join (finite i) (finite j) x y a b = unfold split join in by (ltb i j)
  where
    by : (q : Bool) → let n = pick q (y * i + x) (x * j + y) in pick q (pair (n % i) (n / i)) (pair (n / j) (n % j)) ≡ pair x y
    by true = rw (digits_mod y a, digits_div y a)
    by false = rw (digits_mod x b, digits_div x b)

-- ---- 5
at_least : (q m r : ℕ) → 0 < m → (q ≤ q * m + r) × (r ≤ q * m + r)
at_least q m r h = (omega (arith, mul-le-mul {n₁ = q} {m₁ = 1} {n₂ = q} {m₂ = m} (omega arith) h), omega arith)

pub join_least : (i j : Size) (x y : ℕ) → NotZero i → NotZero j → (x ≤ join i j x y) × (y ≤ join i j x y)
unfolding join
join_least endless endless x y a b =
    pick_by (λ n. (x ≤ n) × (y ≤ n)) (ltb x y) (λ e. (omega arith, omega (arith, own_square y))) (λ e. (omega arith, omega arith))
join_least (finite i) endless x y a b = ((at_least y i x a).1, (at_least y i x a).0)
join_least endless (finite j) x y a b = at_least x j y b
join_least (finite i) (finite j) x y a b =
    pick_by (λ n. (x ≤ n) × (y ≤ n)) (ltb i j) (λ e. ((at_least y i x a).1, (at_least y i x a).0)) (λ e. at_least x j y b)
