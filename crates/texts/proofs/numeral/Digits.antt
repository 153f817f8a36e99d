-- Runs of digits as lists.
--   digit_low                  the bytes from '0' to '9'
--   Digits, Stops              every byte is a digit; no digit at the front
--   digits_each                of digits, the byte at a place
--   run_digits, run_stops, run_split    a run has only digits, no digit stands behind it, and the two are the text
--   run_of                     digits with no digit behind them are the run
--   numeral_of, numeral_not    the number of a run does not depend on where it stands
--   number_within              a number that is read lies in the text
-- Assumes nothing.
use mathlib.Core.Path.{◌≡◌, refl, sym, ap}
use mathlib.Core.Bool.{Bool, true, false, cond, ◌&&◌}
use mathlib.Mathlib.Data.Bool.Basic.{and_elim_left}
use mathlib.Core.List.{List, [], ◌∷◌, ◌++◌}
use Prim.Native.Nat.{ℕ, zero, suc, ◌+◌, ◌^◌, ◌≤◌, ◌<◌}
use native.Mathlib.Omega.{arith}
use lib.Dec.{leb, ltb}
use lib.ListN.{length, get_or, drop, length-append, length-drop}
use borrow.Author.Tests.{leb-true}
use Rattle.texts.specs.Ascii.{is_digit}
use Rattle.texts.specs.Numeral.{run, value, well_formed, numeral, numeral_at}
use Rattle.texts.specs.declared.numeral.Numeral.{Numeral}
use Rattle.std.specs.Prelude.{Option, Some, None}

pub digit_low : (b : ℕ) → is_digit b ≡ true → 48 ≤ b
digit_low b e = leb-true 48 b (and_elim_left (leb 48 b) (leb b 57) e)

abbrev pub Digits : List ℕ → Type 0
Digits [] = Unit {0}
Digits (d ∷ ds) = (is_digit d ≡ true) × Digits ds

abbrev pub Stops : List ℕ → Type 0
Stops [] = Unit {0}
Stops (b ∷ bs) = is_digit b ≡ false

pub digits_each : (ds : List ℕ) (i : ℕ) → Digits ds → i < length ds → is_digit (get_or ds i 0) ≡ true
digits_each [] i h l = absurd (omega arith)
digits_each (d ∷ ds) zero h l = h.0
digits_each (d ∷ ds) (suc i) h l = digits_each ds i h.1 (omega arith)

pub run_digits : (bs : List ℕ) → Digits (run bs)
unfolding run
run_digits [] = tt
run_digits (b ∷ bs) = by (is_digit b) refl (run_digits bs)
  where
    by : (q : Bool) → is_digit b ≡ q → Digits (run bs) → Digits (cond q (b ∷ run bs) [])
    by true e h = (e, h)
    by false e h = tt

pub run_stops : (bs : List ℕ) → Stops (drop (length (run bs)) bs)
unfolding run
run_stops [] = tt
run_stops (b ∷ bs) = by (is_digit b) refl (run_stops bs)
  where
    by : (q : Bool) → is_digit b ≡ q → Stops (drop (length (run bs)) bs) → Stops (drop (length (cond q (b ∷ run bs) [])) (b ∷ bs))
    by true e h = h
    by false e h = e

pub run_split : (bs : List ℕ) → bs ≡ run bs ++ drop (length (run bs)) bs
unfolding run
run_split [] = refl
run_split (b ∷ bs) = by (is_digit b) (run_split bs)
  where
    by : (q : Bool) → bs ≡ run bs ++ drop (length (run bs)) bs → b ∷ bs ≡ cond q (b ∷ run bs) [] ++ drop (length (cond q (b ∷ run bs) [])) (b ∷ bs)
    by true h = ap (b ∷◌) h
    by false h = refl

pub run_of : (ds rest : List ℕ) → Digits ds → Stops rest → run (ds ++ rest) ≡ ds
unfolding run
run_of [] [] h s = refl
run_of [] (b ∷ bs) h s = rw s
run_of (d ∷ ds) rest h s = rw (h.0, run_of ds rest h.1 s)

-- ---- the number of a run
module _ (ds : List ℕ) (at : ℕ) where
  pub numeral_of : {n : Numeral} → numeral ds at ≡ Some n → (n.end ≡ at + length ds) × (numeral ds 0 ≡ Some (record { value = n.value; end = length ds }))
  unfolding numeral
  numeral_of {n} h = by (well_formed ds && ltb (value ds) (2 ^ 64)) h
    where
      by : (q : Bool) → cond {A = Option Numeral} q (Some (record { value = value ds; end = at + length ds })) None ≡ Some n → (n.end ≡ at + length ds) ×
          (cond {A = Option Numeral} q (Some (record { value = value ds; end = 0 + length ds })) None ≡ Some (record { value = n.value; end = length ds }))
      by true g =
          let same : record { value = value ds; end = at + length ds } ≡ n = cc in
          let number : value ds ≡ n.value = ap (λ (m : Numeral). m.value) same in
          let z : 0 + length ds ≡ length ds = omega arith in
          (sym (ap (λ (m : Numeral). m.end) same), rw (number, z) refl)
      by false g = cc

  pub numeral_not : numeral ds at ≡ None → numeral ds 0 ≡ None
  unfolding numeral
  numeral_not h = by (well_formed ds && ltb (value ds) (2 ^ 64)) h
    where
      by : (q : Bool) → cond {A = Option Numeral} q (Some (record { value = value ds; end = at + length ds })) None ≡ None
          → cond {A = Option Numeral} q (Some (record { value = value ds; end = 0 + length ds })) None ≡ None
      by true g = cc
      by false g = refl

some_digit : (ds : List ℕ) (at : ℕ) {n : Numeral} → numeral ds at ≡ Some n → 0 < length ds
unfolding numeral well_formed
some_digit [] at h = cc
some_digit (d ∷ ds) at h = omega arith

pub number_within : (text : List ℕ) (at : ℕ) {n : Numeral} → numeral_at text at ≡ Some n → (at < n.end) × (n.end ≤ length text)
number_within text at h =
    let ds = run (drop at text) in
    let whole = ap length (run_split (drop at text)) in
    omega (arith, (numeral_of ds at h).0, some_digit ds at h, whole, length-append ds (drop (length ds) (drop at text)), length-drop at text)
