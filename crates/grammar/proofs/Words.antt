-- The words of a pool node: which cell is which number's.
--   place_in, word_at     a listed word has a place, and stands there
--   word_in, place_word   the word at n is listed; where no word is listed twice, its place is n
-- Assumes nothing.
use mathlib.Core.Path.{◌≡◌, refl, sym, ◌∙◌}
use mathlib.Core.Bool.{Bool, true, false, not, ◌||◌, false≢true}
use mathlib.Core.List.{List, [], ◌∷◌}
use Prim.Native.Nat.{ℕ, zero, suc, ◌<◌}
use native.Mathlib.Nat.{not-suc-le-zero, le_of_suc-le-suc}
use native.Mathlib.Omega.{arith}
use lib.Dec.{eqb}
use lib.ListN.{length, get_or}
use borrow.Author.Tests.{eqb-true, eq-eqb, ne_eqb, not-true}
use Rattle.numbers.specs.Pick.{pick}
use Rattle.lists.specs.Lists.{has}
use Rattle.grammar.specs.Checks.{different}
use Rattle.numbers.proofs.Tests.{and_left, and_right, or_right}
use Rattle.grammar.specs.kinds.Pool.{place_of}

pub place_in : (c : ℕ) (ws : List ℕ) → has c ws ≡ true → place_of c ws < length ws
unfolding has place_of
place_in c [] e = absurd (false≢true e)
place_in c (w ∷ ws) e = by (eqb c w) e (place_in c ws)
  where
    by : (t : Bool) → (t || has c ws) ≡ true → (has c ws ≡ true → place_of c ws < length ws) → pick t 0 (suc (place_of c ws)) < suc (length ws)
    by true h ih = omega arith
    by false h ih = omega (arith, ih h)

pub word_at : (c : ℕ) (ws : List ℕ) → has c ws ≡ true → get_or ws (place_of c ws) 0 ≡ c
unfolding has place_of
word_at c [] e = absurd (false≢true e)
word_at c (w ∷ ws) e = by (eqb c w) refl e (word_at c ws)
  where
    by : (t : Bool) → eqb c w ≡ t → (t || has c ws) ≡ true → (has c ws ≡ true → get_or ws (place_of c ws) 0 ≡ c)
        → get_or (w ∷ ws) (pick t 0 (suc (place_of c ws))) 0 ≡ c
    by true u h ih = sym (eqb-true c w u)
    by false u h ih = ih h

pub word_in : (ws : List ℕ) (n : ℕ) → n < length ws → has (get_or ws n 0) ws ≡ true
unfolding has
word_in [] n l = absurd (not-suc-le-zero l)
word_in (w ∷ ws) zero l = rw (eq-eqb w w refl)
word_in (w ∷ ws) (suc n) l = or_right (eqb (get_or ws n 0) w) (has (get_or ws n 0) ws) (word_in ws n (le_of_suc-le-suc l))

pub place_word : (ws : List ℕ) (n : ℕ) → n < length ws → different ws ≡ true → place_of (get_or ws n 0) ws ≡ n
unfolding place_of different
place_word [] n l e = absurd (not-suc-le-zero l)
place_word (w ∷ ws) zero l e = rw (eq-eqb w w refl)
place_word (w ∷ ws) (suc n) l e =
    let k = le_of_suc-le-suc l in
    let out : has w ws ≡ false = not-true (has w ws) (and_left (not (has w ws)) (different ws) e) in
    let other : get_or ws n 0 ≡ w → ⊥ = λ u. false≢true (sym out ∙ rw (← u) (word_in ws n k)) in
    rw (ne_eqb (get_or ws n 0) w other, place_word ws n k (and_right (not (has w ws)) (different ws) e))
