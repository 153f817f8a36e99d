-- Worked cases, computed: what each definition gives, beside what it must give.
--   numerals_worked, lines_worked, texts_worked    numeral_at and line_at at a place, decimal
-- Assumes nothing.
use mathlib.Core.Path.{◌≡◌, refl}
use mathlib.Core.List.{List, [], ◌∷◌, map}
use Prim.Native.Nat.{ℕ, ◌-◌, ◌^◌}
use Prim.Native.String.{String}
use Rattle.texts.specs.Ascii.{bytes}
use Rattle.texts.specs.Numeral.{run, value_from, well_formed, numeral, numeral_at}
use Rattle.texts.specs.Decimal.{decimal_by, decimal}
use Rattle.texts.specs.Line.{Reading, numbers, unreadable, ended, words, number_of, numbers_of, line_at}
use Rattle.texts.specs.declared.numeral.Numeral.{Numeral}
use Rattle.std.specs.Prelude.{Option, Some, None}

-- a text, a place in it, and the outcome
data Case (A : Type 0) : Type 0 where
  case : String → ℕ → A → Case A

abbrev outcome : {A : Type 0} → (List ℕ → ℕ → A) → Case A → A
outcome f (case s at a) = f (bytes s) at

abbrev expected : {A : Type 0} → Case A → A
expected (case s at a) = a

-- ---- numbers
-- the number, and the place after its digits
abbrev of : ℕ → ℕ → Option Numeral
of value end = Some (record { value = value; end = end })

abbrev numerals : List (Case (Option Numeral))
numerals =
    case "0" 0 (of 0 1)
    ∷ case "120 7" 0 (of 120 3)
    ∷ case "120 7" 1 (of 20 3)
    ∷ case "120 7" 2 (of 0 3)
    ∷ case "120 7" 3 None
    ∷ case "120 7" 4 (of 7 5)
    ∷ case "120 7" 5 None
    ∷ case "120 7" 6 None
    ∷ case "00" 0 None
    ∷ case "07" 0 None
    ∷ case "+7" 0 None
    ∷ case "-7" 0 None
    ∷ case "9/" 0 (of 9 1)
    ∷ case "9:" 0 (of 9 1)
    ∷ case "18446744073709551615" 0 (of (2 ^ 64 - 1) 20)
    ∷ case "18446744073709551616" 0 None
    ∷ case "20000000000000000000" 0 None
    ∷ case "100000000000000000000" 0 None
    ∷ []

numerals_worked : map (outcome numeral_at) numerals ≡ map expected numerals
unfolding run value_from well_formed numeral
numerals_worked = refl

-- ---- lines
abbrev lines : List (Case Reading)
lines =
    case "\n" 0 (numbers [] 1)
    ∷ case "0\n" 0 (numbers (0 ∷ []) 2)
    ∷ case "0 1 20\n5\n" 0 (numbers (0 ∷ 1 ∷ 20 ∷ []) 7)
    ∷ case "0 1 20\n5\n" 7 (numbers (5 ∷ []) 9)
    ∷ case "0 1 20\n5\n" 6 (numbers [] 7)
    ∷ case "0 1 20\n5\n" 9 unreadable
    ∷ case "18446744073709551615\n" 0 (numbers ((2 ^ 64 - 1) ∷ []) 21)
    ∷ case "18446744073709551616\n" 0 unreadable
    ∷ case "" 0 unreadable
    ∷ case "1" 0 unreadable
    ∷ case "1 2" 0 unreadable
    ∷ case "1  2\n" 0 unreadable
    ∷ case " 1\n" 0 unreadable
    ∷ case "1 \n" 0 unreadable
    ∷ case " \n" 0 unreadable
    ∷ case "1\t2\n" 0 unreadable
    ∷ case "1\r\n" 0 unreadable
    ∷ case "\r\n" 0 unreadable
    ∷ case "+1\n" 0 unreadable
    ∷ case "-1\n" 0 unreadable
    ∷ case "01\n" 0 unreadable
    ∷ case "1,2\n" 0 unreadable
    ∷ case "1 x\n" 0 unreadable
    ∷ []

lines_worked : map (outcome line_at) lines ≡ map expected lines
unfolding run value_from well_formed numeral ended words number_of numbers_of line_at
lines_worked = refl

-- ---- decimal texts
texts_worked : map decimal (0 ∷ 9 ∷ 10 ∷ 1907 ∷ (2 ^ 64 - 1) ∷ []) ≡ map bytes ("0" ∷ "9" ∷ "10" ∷ "1907" ∷ "18446744073709551615" ∷ [])
unfolding decimal_by decimal
texts_worked = refl
