-- 01's refusal numbers.
--   number_of   the number that 01 gives to a refusal
--   Verdict     what a check answers
--   accepted, refused   its answers; refused also a call's that has another value
-- Assumes nothing.
use Rattle.std.specs.Prelude.{ℕ, Result, Ok, Err}
use Rattle.grammar.specs.declared.refusal.Refusal.{Refusal}
use Rattle.grammar.specs.declared.refusal.Refused.{Refused}
use Rattle.grammar.specs.declared.refusal.Refusal.TheVariants.{Length, Kind, SpareWord, Reference, Range, Repeat, UnsuitedPart, TooLarge}
use Rattle.grammar.specs.declared.refusal.Refusal.TheVariants.{Unguarded, ExceptOnCycle, NoSuchStart, NoSuchNumber}
use Rattle.grammar.specs.declared.refusal.Refusal.TheVariants.{TooDeep, NoRoom, NotACase, NumberTooLarge}

-- "1 length, 2 kind, 3 spare word, 4 reference, 5 range, 6 repeat, 7 unsuited part, 8 size, 9 unguarded, 10 except on a cycle", and 11 to 16
unfoldable pub number_of : Refusal → ℕ
number_of Length = 1
number_of Kind = 2
number_of SpareWord = 3
number_of Reference = 4
number_of Range = 5
number_of Repeat = 6
number_of UnsuitedPart = 7
number_of TooLarge = 8
number_of Unguarded = 9
number_of ExceptOnCycle = 10
number_of NoSuchStart = 11
number_of NoSuchNumber = 12
number_of TooDeep = 13
number_of NoRoom = 14
number_of NotACase = 15
number_of NumberTooLarge = 16

abbrev pub Verdict : Type 0
Verdict = Result (Unit {0}) Refused

abbrev pub accepted : Verdict
accepted = Ok tt

-- a refusal and its node
abbrev pub refused : {A : Type 0} → Refusal → ℕ → Result A Refused
refused r k = Err (record { refusal = r; node = k })
