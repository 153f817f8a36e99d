-- The bytes of an input and of its lines.
--   readable_long, _none, _last    an input as a whole
--   size_lf, size_all              how far the first line goes, by where the first LF is
--   word_is                        the bytes before a space or LF
-- Assumes nothing.
use mathlib.Core.Path.{◌≡◌, refl, sym, ap, ◌∙◌}
use mathlib.Core.Bool.{Bool, true, false, cond, not, ◌&&◌, ◌||◌}
use mathlib.Core.List.{List, [], ◌∷◌}
use Prim.Native.Nat.{ℕ, suc, ◌+◌, ◌-◌, ◌≤◌, ◌<◌}
use native.Mathlib.Omega.{arith}
use lib.Dec.{eqb}
use lib.ListN.{length, get_or}
use borrow.Author.Tests.{le-leb, lt-leb}
use Rattle.std.specs.Prelude.{Option, Some, None, position, take_while}
use Rattle.std.specs.List.{position_from}
use Rattle.std.proofs.lemmas.Iterator.Adapters.{position_from-zero}
use Rattle.std.proofs.lemmas.List.Sums.{take_while-cons}
use Rattle.calling.specs.Line.{most_bytes, readable, word_size}
use Rattle.calling.specs.Input.{line_size}

-- ---- an input as a whole
pub readable_long : (text : List ℕ) → most_bytes < length text → false ≡ readable text
unfolding readable
readable_long [] l = absurd (omega arith)
readable_long (b ∷ bs) l = rw (lt-leb (length (b ∷ bs)) most_bytes l)

pub readable_none : (text : List ℕ) → length text ≡ 0 → true ≡ readable text
unfolding readable
readable_none [] e = refl
readable_none (b ∷ bs) e = absurd (omega arith)

pub readable_last : (text : List ℕ) → length text ≤ most_bytes → (length text ≡ 0 → ⊥) → eqb (get_or text (length text - 1) 0) 10 ≡ readable text
unfolding readable
readable_last [] l f = absurd (f refl)
readable_last (b ∷ bs) l f = let e : length (b ∷ bs) - 1 ≡ length bs = omega arith in rw (le-leb (length (b ∷ bs)) most_bytes l, e)

-- ---- the first LF
abbrev pub is_lf : ℕ → Bool
is_lf b = eqb b 10

lf_from : (i : ℕ) (bs : List ℕ) {k : ℕ} → position_from is_lf i bs ≡ Some k → line_size bs + i ≡ k + 1
unfolding line_size
lf_from i [] e = cc
lf_from i (b ∷ bs) {k} e = by (eqb b 10) (lf_from (i + 1) bs) e
  where
    by : (q : Bool) → (position_from is_lf (i + 1) bs ≡ Some k → line_size bs + (i + 1) ≡ k + 1) → cond q (Some i) (position_from is_lf (i + 1) bs) ≡ Some k
        → cond q 1 (suc (line_size bs)) + i ≡ k + 1
    by true r f = let same : i ≡ k = cc in omega arith
    by false r f = omega (arith, r f)

lf_no : (i : ℕ) (bs : List ℕ) → position_from is_lf i bs ≡ None → line_size bs ≡ length bs
unfolding line_size
lf_no i [] e = refl
lf_no i (b ∷ bs) e = by (eqb b 10) (lf_no (i + 1) bs) e
  where
    by : (q : Bool) → (position_from is_lf (i + 1) bs ≡ None → line_size bs ≡ length bs) → cond q (Some i) (position_from is_lf (i + 1) bs) ≡ None
        → cond q 1 (suc (line_size bs)) ≡ length (b ∷ bs)
    by true r f = cc
    by false r f = ap suc (r f)

module _ (bs : List ℕ) {o : Option ℕ} (e : o ≡ position is_lf bs) where
  pub size_lf : {k : ℕ} → o ≡ Some k → line_size bs ≡ k + 1
  size_lf f = omega (arith, lf_from 0 bs (sym (position_from-zero is_lf bs) ∙ sym e ∙ f))

  pub size_all : o ≡ None → line_size bs ≡ length bs
  size_all f = lf_no 0 bs (sym (position_from-zero is_lf bs) ∙ sym e ∙ f)

-- ---- the bytes before a space or LF
abbrev in_word : ℕ → Bool
in_word b = not (eqb b 32) && not (eqb b 10)

pub word_is : (line : List ℕ) → length (take_while (λ b. not (eqb b 32) && not (eqb b 10)) line) ≡ word_size line
unfolding word_size
word_is [] = refl
word_is (b ∷ bs) = ap length (take_while-cons in_word b bs) ∙ by (eqb b 32) (eqb b 10) (word_is bs)
  where
    by : (p q : Bool) → length (take_while in_word bs) ≡ word_size bs
        → length (cond (not p && not q) (b ∷ take_while in_word bs) []) ≡ elim (p || q) [ true ↦ 0 | false ↦ 1 + word_size bs ]
    by true q r = refl
    by false true r = refl
    by false false r = omega (arith, r)
