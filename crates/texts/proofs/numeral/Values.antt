-- The value of digits, as a loop over them builds it.
--   is_word, is_past, word_back, past_back    a number as a word, and back
--   digit_low                 what a digit's byte is
--   value_least               more digits give no less
--   Valued                    what is known at a place: the value is that of the digits so far and of those from here
--   valued_more, valued_past, valued_end    the loop's steps
-- Assumes nothing.
use mathlib.Core.Path.{◌≡◌, refl, sym, subst, ◌∙◌}
use mathlib.Core.Bool.{Bool, true, false, cond}
use mathlib.Core.List.{List, [], ◌∷◌}
use mathlib.Mathlib.Data.Bool.Basic.{and_elim_left}
use Prim.Native.Nat.{ℕ, ◌+◌, ◌*◌, ◌-◌, ◌^◌, ◌≤◌, ◌<◌}
use native.Mathlib.Numerals.{add-one}
use native.Mathlib.Omega.{arith}
use lib.Dec.{leb, ltb}
use lib.ListN.{length, get_or, drop, drop_of_length-le}
use lib.Seq.{drop-cons}
use borrow.Author.Tests.{lt-ltb, le-ltb, ltb-true, ltb-false, leb-true}
use Rattle.std.specs.Prelude.{Option, Some, None}
use Rattle.texts.specs.Ascii.{is_digit}
use Rattle.texts.specs.Numeral.{run, value_from, value, worded}
use Rattle.texts.proofs.numeral.Digits.{Digits, digits_each, run_digits}

-- ---- a number as a word
pub is_word : (n : ℕ) → n < 2 ^ 64 → Some n ≡ worded n
unfolding worded
is_word n h = rw (lt-ltb n (2 ^ 64) h)

pub is_past : (n : ℕ) → 2 ^ 64 ≤ n → None ≡ worded n
unfolding worded
is_past n h = rw (le-ltb n (2 ^ 64) h)

pub word_back : (n w : ℕ) → worded n ≡ Some w → (w ≡ n) × (n < 2 ^ 64)
unfolding worded
word_back n w e = by (ltb n (2 ^ 64)) refl e
  where
    by : (q : Bool) → ltb n (2 ^ 64) ≡ q → cond q (Some n) None ≡ Some w → (w ≡ n) × (n < 2 ^ 64)
    by true t f = ((cc), ltb-true n (2 ^ 64) t)
    by false t f = cc

pub past_back : (n : ℕ) → worded n ≡ None → 2 ^ 64 ≤ n
unfolding worded
past_back n e = by (ltb n (2 ^ 64)) refl e
  where
    by : (q : Bool) → ltb n (2 ^ 64) ≡ q → cond q (Some n) None ≡ None → 2 ^ 64 ≤ n
    by true t f = cc
    by false t f = ltb-false n (2 ^ 64) t

-- ---- the bytes of digits
module _ {ds : List ℕ} (all : run ds ≡ ds) {i : ℕ} (l : i < length ds) where
  digit : is_digit (get_or ds i 0) ≡ true
  digit = digits_each ds i (subst Digits all (run_digits ds)) l

  pub digit_low : 48 ≤ get_or ds i 0
  digit_low = leb-true 48 (get_or ds i 0) (and_elim_left (leb 48 (get_or ds i 0)) (leb (get_or ds i 0) 57) digit)

-- ---- Horner's rule
pub value_least : (v : ℕ) (ds : List ℕ) → v ≤ value_from v ds
unfolding value_from
value_least v [] = omega arith
value_least v (d ∷ ds) = omega (arith, value_least (10 * v + (d - 48)) ds)

-- ---- the loop
pub record Valued (digits : List ℕ) (v i : ℕ) : Type 0 where
  pub is : value digits ≡ value_from v (drop i digits)
  pub word : v < 2 ^ 64

module _ {digits : List ℕ} {v i : ℕ} (s : Valued digits v i) where
  pub valued_end : length digits ≤ i → Some v ≡ worded (value digits)
  unfolding value_from
  valued_end h = rw (s.is, drop_of_length-le digits h) (is_word v s.word)

  module _ (h : i < length digits) where
    one_more : value digits ≡ value_from (10 * v + (get_or digits i 0 - 48)) (drop (i + 1) digits)
    unfolding value_from
    one_more = s.is ∙ rw (drop-cons digits i 0 h, add-one) refl

    module _ {r : Option ℕ} (e : r ≡ worded (10 * v + (get_or digits i 0 - 48))) where
      pub valued_past : r ≡ None → None ≡ worded (value digits)
      valued_past f =
          is_past (value digits)
          (omega (
            arith,
            past_back (10 * v + (get_or digits i 0 - 48)) (sym e ∙ f),
            value_least (10 * v + (get_or digits i 0 - 48)) (drop (i + 1) digits),
            one_more,
          ))

      pub valued_more : {w : ℕ} → r ≡ Some w → Valued digits w (i + 1)
      valued_more {w} f =
          let b = word_back (10 * v + (get_or digits i 0 - 48)) w (sym e ∙ f) in
          record { is = rw b.0 one_more; word = omega arith }
