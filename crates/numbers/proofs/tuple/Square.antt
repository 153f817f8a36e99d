-- For two parts it is 01's square.
--   join_square, split_square   join and split are those of a cons of two endless parts
-- Assumes nothing.
use mathlib.Core.Path.{◌≡◌, refl, ◌∙◌}
use mathlib.Core.Bool.{Bool, true, false}
use mathlib.Core.List.{[], ◌∷◌}
use Prim.Native.Nat.{ℕ, ◌+◌, ◌*◌, ◌≤◌, max}
use native.Mathlib.Nat.{le_refl}
use native.Mathlib.Omega.{arith}
use lib.Dec.{ltb}
use borrow.Author.Tests.{ltb-true, ltb-false, le-ltb}
use Rattle.numbers.specs.Pick.{pick}
use Rattle.numbers.specs.Size.{endless}
use Rattle.numbers.specs.Cons as Cons
use Rattle.numbers.specs.Tuple.{largest, ways, rank, split, join}
use Rattle.numbers.proofs.Tests.{pick_by}
use Rattle.numbers.proofs.cons.SplitJoin as ConsLaws
use Rattle.numbers.proofs.root.Square.{two}
use Rattle.numbers.proofs.tuple.SplitJoin.{split_join}

last : (r y : ℕ) → y ≤ r → pick (ltb y r) (y * 1 + 0) (r * 1 + 0) ≡ y
last r y l = pick_by (λ n. n ≡ y) (ltb y r) (λ e. omega arith) (λ e. omega (arith, ltb-false y r e))

pub join_square : (x y : ℕ) → join (x ∷ y ∷ []) ≡ Cons.join endless endless x y
unfolding join largest rank ways Cons.join
join_square x y = by (ltb x y) refl
  where
    by : (q : Bool) → ltb x y ≡ q → join (x ∷ y ∷ []) ≡ Cons.join endless endless x y
    by true e =
        let l = ltb-true x y e in
        let m : max x (max y 0) ≡ y = omega arith in
        rw (m, e, le-ltb y y (le_refl y)) (omega (arith, two y))
    by false e =
        let l = ltb-false x y e in
        let m : max x (max y 0) ≡ x = omega arith in
        rw (m, e, le-ltb x x (le_refl x)) (omega (arith, two x, last x y l))

pub split_square : (n : ℕ) → let p = Cons.split endless endless n in split 2 n ≡ p.first ∷ p.second ∷ []
split_square n =
    let p = Cons.split endless endless n in
    let e : join (p.first ∷ p.second ∷ []) ≡ n = join_square p.first p.second ∙ ConsLaws.join_split endless endless n in
    rw e at (split_join (p.first ∷ p.second ∷ []))
