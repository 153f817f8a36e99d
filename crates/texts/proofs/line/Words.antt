-- Lines and their words, behind digits at the front.
--   ended_digits               the digits before the first LF are part of the line
--   words_some, words_digits   a line has a first word, and digits at the front are part of it
--   number_of_lem, number_not      the number of a word that is digits
--   number_other               digits and another byte are no number
-- Assumes nothing.
use mathlib.Core.Path.{◌≡◌, refl}
use mathlib.Core.Bool.{Bool, true, false}
use mathlib.Core.List.{List, [], ◌∷◌, ◌++◌, append-nil}
use Rattle.std.specs.Prelude.{Option, Some, None, option_map}
use Prim.Native.Nat.{ℕ}
use native.Mathlib.Omega.{arith}
use lib.Dec.{eqb}
use lib.ListN.{length, length-append}
use borrow.Author.Tests.{ne_eqb, eq-eqb}
use Rattle.texts.specs.Ascii.{is_digit}
use Rattle.texts.specs.Numeral.{run, numeral}
use Rattle.texts.specs.Line.{ended, words, whole, number_of}
use Rattle.texts.specs.declared.numeral.Numeral.{Numeral}
use Rattle.texts.proofs.numeral.Digits.{digit_low, Digits, run_of, numeral_of, numeral_not}

not_lf : (d : ℕ) → is_digit d ≡ true → eqb d 10 ≡ false
not_lf d e = ne_eqb d 10 (omega (arith, digit_low d e))

not_space : (d : ℕ) → is_digit d ≡ true → eqb d 32 ≡ false
not_space d e = ne_eqb d 32 (omega (arith, digit_low d e))

pub ended_digits : (ds rest : List ℕ) → Digits ds → ended (ds ++ rest) ≡ option_map (ds ++◌) (ended rest)
unfolding ended
ended_digits [] rest h = by (ended rest)
  where
    by : (o : Option (List ℕ)) → o ≡ option_map ([] ++◌) o
    by None = refl
    by (Some l) = refl
ended_digits (d ∷ ds) rest h = rw (not_lf d h.0, ended_digits ds rest h.1) (by (ended rest))
  where
    by : (o : Option (List ℕ)) → option_map (d ∷◌) (option_map (ds ++◌) o) ≡ option_map ((d ∷ ds) ++◌) o
    by None = refl
    by (Some l) = refl

-- ---- words
pub record FirstWord (l : List ℕ) : Type 0 where
  pub first : List ℕ
  pub others : List (List ℕ)
  pub is : words l ≡ first ∷ others

pub words_some : (l : List ℕ) → FirstWord l
unfolding words
words_some [] = record { first = []; others = []; is = refl }
words_some (b ∷ l) = by (eqb b 32) refl (words_some l)
  where
    by : (q : Bool) → eqb b 32 ≡ q → FirstWord l → FirstWord (b ∷ l)
    by true e f = record { first = []; others = words l; is = rw e }
    by false e f = record { first = b ∷ f.first; others = f.others; is = rw (e, f.is) }

pub words_digits : (ds l w : List ℕ) (ws : List (List ℕ)) → Digits ds → words l ≡ w ∷ ws → words (ds ++ l) ≡ (ds ++ w) ∷ ws
unfolding words
words_digits [] l w ws h e = e
words_digits (d ∷ ds) l w ws h e = rw (not_space d h.0, words_digits ds l w ws h.1 e)

-- ---- numbers
module _ (ds : List ℕ) (h : Digits ds) where
  run_all : run ds ≡ ds
  run_all = rw append-nil at (run_of ds [] h tt)

  module _ (at : ℕ) where
    pub number_of_lem : {n : Numeral} → numeral ds at ≡ Some n → number_of ds ≡ Some n.value
    unfolding number_of
    number_of_lem g = rw (run_all, (numeral_of ds at g).1, eq-eqb (length ds) (length ds) refl)

    pub number_not : numeral ds at ≡ None → number_of ds ≡ None
    unfolding number_of
    number_not g = rw (run_all, numeral_not ds at g)

  pub number_other : (b : ℕ) (w : List ℕ) → is_digit b ≡ false → number_of (ds ++ b ∷ w) ≡ None
  unfolding number_of
  number_other b w f = rw (run_of ds (b ∷ w) h f) (by (numeral ds 0) refl)
    where
      by : (n : Option Numeral) → numeral ds 0 ≡ n → whole (length (ds ++ b ∷ w)) n ≡ None
      by (Some n) g = rw (ne_eqb n.end (length (ds ++ b ∷ w)) (omega (arith, (numeral_of ds 0 g).0, length-append ds (b ∷ w))))
      by None g = refl
