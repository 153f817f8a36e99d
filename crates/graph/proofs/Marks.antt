-- Lists of marks: what stands there once the nodes of a list are marked, and how many are not marked.
-- Assumes nothing.
use mathlib.Core.Path.{◌≡◌, refl, sym, ap, ◌∙◌}
use mathlib.Core.Bool.{Bool, true, false, false≢true}
use mathlib.Core.Logic.{◌⊎◌, inl, inr, ⊎_elim}
use mathlib.Core.List.{List, [], ◌∷◌, Memᴰ}
use Prim.Native.Nat.{ℕ, zero, suc, ◌<◌}
use native.Mathlib.Nat.{le_of_suc-le-suc, not-suc-le-zero}
use lib.ListN.{length, get_or, set, replicate, length-set}
use lib.Seq.{get_or-set_same, get_or-set_other}
use Rattle.graph.specs.Marks.{marked}
use Rattle.lists.proofs.Order.{same?}

-- one mark
pub set_keeps : (m : List Bool) (x k : ℕ) → get_or m k false ≡ true → get_or (set m x true) k false ≡ true
set_keeps [] x k h = h
set_keeps (y ∷ ys) zero zero h = refl
set_keeps (y ∷ ys) zero (suc k) h = h
set_keeps (y ∷ ys) (suc x) zero h = h
set_keeps (y ∷ ys) (suc x) (suc k) h = set_keeps ys x k h

pub set_hits : (m : List Bool) (x : ℕ) → x < length m → get_or (set m x true) x false ≡ true
set_hits m x h = get_or-set_same m x true false h

pub set_only : (m : List Bool) (x k : ℕ) → get_or (set m x true) k false ≡ true → (get_or m k false ≡ true) ⊎ (k ≡ x)
set_only m x k h = ⊎_elim (λ e. inr e) (λ f. inl (rw (get_or-set_other m x k true false f) at h)) (same? k x)

-- the marks of a list
pub marked_length : (m : List Bool) (xs : List ℕ) → length (marked m xs) ≡ length m
unfolding marked
marked_length m [] = refl
marked_length m (x ∷ xs) = marked_length (set m x true) xs ∙ length-set m x true

pub marked_keeps : (m : List Bool) (xs : List ℕ) (k : ℕ) → get_or m k false ≡ true → get_or (marked m xs) k false ≡ true
unfolding marked
marked_keeps m [] k h = h
marked_keeps m (x ∷ xs) k h = marked_keeps (set m x true) xs k (set_keeps m x k h)

hits_in : (k : ℕ) {xs : List ℕ} (m : List Bool) → k < length m → Memᴰ k xs → get_or (marked m xs) k false ≡ true
unfolding marked
hits_in k m h (Memᴰ.head {x} {xs} e) = marked_keeps (set m x true) xs k (rw e (set_hits m x (rw e at h)))
hits_in k m h (Memᴰ.tail {x} {xs} i) = hits_in k (set m x true) (rw (length-set m x true) h) i

pub marked_hits : (m : List Bool) {xs : List ℕ} (k : ℕ) → k < length m → Memᴰ k xs → get_or (marked m xs) k false ≡ true
marked_hits m k = hits_in k m

pub marked_only : (m : List Bool) (xs : List ℕ) (k : ℕ) → get_or (marked m xs) k false ≡ true → (get_or m k false ≡ true) ⊎ Memᴰ k xs
unfolding marked
marked_only m [] k h = inl h
marked_only m (x ∷ xs) k h =
    ⊎_elim (λ l. ⊎_elim (λ o. inl o) (λ e. inr (Memᴰ.head e)) (set_only m x k l)) (λ i. inr (Memᴰ.tail i))
    (marked_only (set m x true) xs k h)

-- nothing is marked at first
pub blank : (n k : ℕ) → get_or (replicate n false) k false ≡ false
blank zero k = refl
blank (suc n) zero = refl
blank (suc n) (suc k) = blank n k

-- how many places hold no mark; a mark where there was none makes it one less
unfoldable pub unmarked : List Bool → ℕ
unmarked [] = 0
unmarked (false ∷ xs) = suc (unmarked xs)
unmarked (true ∷ xs) = unmarked xs

pub unmarked_set : (m : List Bool) (i : ℕ) → i < length m → get_or m i false ≡ false → suc (unmarked (set m i true)) ≡ unmarked m
unfolding unmarked
unmarked_set [] i h e = absurd (not-suc-le-zero h)
unmarked_set (false ∷ xs) zero h e = refl
unmarked_set (true ∷ xs) zero h e = absurd (false≢true (sym e))
unmarked_set (false ∷ xs) (suc i) h e = ap suc (unmarked_set xs i (le_of_suc-le-suc h) e)
unmarked_set (true ∷ xs) (suc i) h e = unmarked_set xs i (le_of_suc-le-suc h) e
