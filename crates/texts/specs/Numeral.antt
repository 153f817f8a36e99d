-- The decimal number that starts at a place of a text.
--   run          the longest run of digits at the front of a text
--   value        the number that a run of digits is, whole and without limit
--   well_formed   a run that is not empty and has no leading zero unless it is "0" itself
--   numeral_at    the number at a place, below 2^64, and the place after its digits, if there is one
--   worded       a number as a word, if it is below 2^64
-- Assumes nothing.
use Rattle.std.specs.Prelude.{Bool, true, false, not, cond, ◌&&◌, List, [], ◌∷◌, ℕ, ◌+◌, ◌*◌, ◌-◌, ◌^◌, eqb, ltb, length, drop, Option, Some, None}
use Rattle.texts.specs.Ascii.{digit0, is_digit}
use Rattle.texts.specs.declared.numeral.Numeral.{Numeral}

unfoldable pub run : List ℕ → List ℕ
run [] = []
run (b ∷ bs) = cond (is_digit b) (b ∷ run bs) []

-- Horner's rule: v and then the digits
unfoldable pub value_from : ℕ → List ℕ → ℕ
value_from v [] = v
value_from v (d ∷ ds) = value_from (10 * v + (d - digit0)) ds

abbrev pub value : List ℕ → ℕ
value ds = value_from 0 ds

unfoldable pub well_formed : List ℕ → Bool
well_formed [] = false
well_formed (d ∷ []) = true
well_formed (d ∷ e ∷ ds) = not (eqb d digit0)

-- the number of a run that starts at a place
unfoldable pub numeral : List ℕ → ℕ → Option Numeral
numeral ds at = cond (well_formed ds && ltb (value ds) (2 ^ 64)) (Some (record { value = value ds; end = at + length ds })) None

abbrev pub numeral_at : List ℕ → ℕ → Option Numeral
numeral_at text at = numeral (run (drop at text)) at

unfoldable pub worded : ℕ → Option ℕ
worded n = cond (ltb n (2 ^ 64)) (Some n) None
