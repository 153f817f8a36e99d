-- The order of tuples, as 02 says it: "in order of their largest part number, and within one largest number in dictionary order".
--   join_order   of two tuples of one length the earlier has the lower number
-- Assumes nothing.
use mathlib.Core.Path.{◌≡◌, subst}
use mathlib.Core.Bool.{Bool, true, false}
use mathlib.Core.Logic.{inl, inr}
use mathlib.Core.List.{List, [], ◌∷◌}
use Prim.Native.Nat.{ℕ, suc, ◌+◌, ◌<◌}
use native.Mathlib.Omega.{arith}
use lib.ListN.{length}
use borrow.Author.Tests.{lt-ltb, le-ltb}
use Rattle.numbers.specs.Tuple.{largest, Dictionary, less, same, Earlier, lower, within, ways, rank, join}
use Rattle.numbers.proofs.power.Powers.{pow_le}
use Rattle.numbers.proofs.tuple.Places.{Full, times_more, ways_layer, rank_below, full_most}

suc_same : {a b : ℕ} → suc a ≡ suc b → a ≡ b
suc_same e = omega arith

dictionary_rank : (met : Bool) (r : ℕ) (xs ys : List ℕ)
    → Full met r xs → Full met r ys → length xs ≡ length ys → Dictionary xs ys → rank met r xs < rank met r ys
unfolding rank
dictionary_rank met r [] ys _ _ e h = elim h [ ]
dictionary_rank met r (x ∷ xs) [] _ _ e h = elim h [ ]
dictionary_rank met r (x ∷ xs) (y ∷ ys) (inl (a, f)) (inl (b, g)) e (less l) =
    rw (lt-ltb x r a, lt-ltb y r b, suc_same e)
    (omega (arith, (rw (suc_same e) at (rank_below met r xs f)), times_more (ways met r (length ys)) l))
dictionary_rank met r (x ∷ xs) (y ∷ ys) (inl (a, f)) (inr (b, g)) e (less l) =
    rw (lt-ltb x r a, le-ltb y r (omega arith), suc_same e)
    (omega (arith, (rw (suc_same e) at (rank_below met r xs f)), times_more (ways met r (length ys)) a))
dictionary_rank met r (x ∷ xs) (y ∷ ys) (inr (a, f)) (inl (b, g)) e (less l) = absurd (omega arith)
dictionary_rank met r (x ∷ xs) (y ∷ ys) (inr (a, f)) (inr (b, g)) e (less l) = absurd (omega arith)
dictionary_rank met r (x ∷ xs) (y ∷ ys) (inl (a, f)) (inl (b, g)) e (same d) =
    rw (lt-ltb x r a, suc_same e) (omega (arith, dictionary_rank met r xs ys f g (suc_same e) d))
dictionary_rank met r (x ∷ xs) (y ∷ ys) (inr (a, f)) (inr (b, g)) e (same d) =
    rw (le-ltb x r (omega arith), suc_same e) (omega (arith, dictionary_rank true r xs ys f g (suc_same e) d))
dictionary_rank met r (x ∷ xs) (y ∷ ys) (inl (a, f)) (inr (b, g)) e (same d) = absurd (omega arith)
dictionary_rank met r (x ∷ xs) (y ∷ ys) (inr (a, f)) (inl (b, g)) e (same d) = absurd (omega arith)

-- of lists that are not empty
module _ (x : ℕ) (xs : List ℕ) (y : ℕ) (ys : List ℕ) (n : length (x ∷ xs) ≡ length (y ∷ ys)) where
  order : Earlier (x ∷ xs) (y ∷ ys) → join (x ∷ xs) < join (y ∷ ys)
  unfolding join
  order (lower l) =
      let b = rank_below false (largest (x ∷ xs)) (x ∷ xs) (full_most x xs) in
      let w = ways_layer (largest (x ∷ xs)) (length (x ∷ xs)) in
      let p = pow_le (length (y ∷ ys)) {a = largest (x ∷ xs) + 1} {b = largest (y ∷ ys)} (omega arith) in
      rw n (omega (arith, rw n at b, rw n at w, p))
  order (within m d) =
      let f = subst (λ (r : ℕ). Full false r (x ∷ xs)) m (full_most x xs) in
      let k = dictionary_rank false (largest (y ∷ ys)) (x ∷ xs) (y ∷ ys) f (full_most y ys) n d in
      rw (m, n) (omega (arith, k))

pub join_order : (xs ys : List ℕ) → length xs ≡ length ys → Earlier xs ys → join xs < join ys
unfolding largest
join_order [] [] e (lower l) = absurd (omega arith)
join_order [] [] e (within _ h) = elim h [ ]
join_order [] (y ∷ ys) e h = absurd (omega arith)
join_order (x ∷ xs) [] e h = absurd (omega arith)
join_order (x ∷ xs) (y ∷ ys) e h = order x xs y ys e h
