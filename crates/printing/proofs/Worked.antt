-- Worked prints, computed: what each text prints, beside what it must print. The first is 01's whole example.
--   prints, worked    the list and the theorem
-- Assumes nothing.
use mathlib.Core.Path.{◌≡◌, refl}
use mathlib.Core.List.{List, [], ◌∷◌, map}
use Prim.Native.Nat.{ℕ}
use Prim.Native.String.{String}
use Rattle.walk.proofs.Opened.{walking}
use Rattle.checked.specs.Opening.{opening}
use Rattle.checked.specs.Fits.{fitted}
use Rattle.cases.specs.Write.{writes}
use Rattle.texts.specs.Ascii.{bytes}
use Rattle.texts.specs.Numeral.{run, value_from, well_formed, numeral}
use Rattle.texts.specs.Decimal.{decimal_by, decimal}
use Rattle.texts.specs.Line.{ended, words, number_of as number_of_word, numbers_of, line_at, line_text}
use Rattle.texts.specs.Said.{unreadable_text, refused_text, refused_line}
use Rattle.printing.specs.Texts.{case_text, case_refused_text}
use Rattle.printing.specs.Input.{table_line, pool_line, one_at, numbers_by, numbers_from, input_of}
use Rattle.printing.specs.Printed.{case_line, cases_of, told, printed}

data Print : Type 0 where
  prints_as : String → String → Print

abbrev asked : Print → List ℕ
asked (prints_as text print) = printed (bytes text)

abbrev expected : Print → List ℕ
expected (prints_as text print) = bytes print

abbrev prints : List Print
prints =
    prints_as "0 1 0 1 0 0 9 5 0 5 1 2 4 0 3 8 4 0\n\n5\n0\n43\n" "case 0: 0 0\ncase 43: 1 6 0 0\n"
    ∷ prints_as "0 1 0\n\n0\n" ""
    ∷ prints_as "2 0 2\n7 18446744073709551615\n0\n1\n0\n2\n" "case 1: 18446744073709551615\ncase 0: 7\ncase 2 refused 12\n"
    ∷ prints_as "1 0 0\n\n0\n4611686018427387904\n" "case 4611686018427387904 refused 12\n"
    ∷ prints_as "1 0\n\n0\n" "refused 1 at 0\n"
    ∷ prints_as "1 0 0 0 0 0\n\n0\n7\n" "refused 5 at 1\n"
    ∷ prints_as "1 0 0\n\n1\n7\n" "refused 11 at 0\n"
    ∷ prints_as "1 0 0\n\n1\n07\n" "unreadable\n"
    ∷ prints_as "1 0 0\n\n0\n7" "unreadable\n"
    ∷ prints_as "1 0 0\n\n0\n7\n\n" "unreadable\n"
    ∷ prints_as "1 0 0\n0\n7\n" "refused 11 at 0\n"
    ∷ prints_as "\n\n0\n7\n" "unreadable\n"
    ∷ prints_as "1 0 0\n\n" "unreadable\n"
    ∷ prints_as "1 0  0\n\n0\n7\n" "unreadable\n"
    ∷ prints_as "1 0 0\n\n0\n18446744073709551616\n" "unreadable\n"
    ∷ prints_as "1 0 0\n\n0\n7 7\n" "unreadable\n"
    ∷ prints_as "" "unreadable\n"
    ∷ []

worked : map asked prints ≡ map expected prints
unfolding walking fitted opening writes run value_from well_formed numeral decimal_by decimal ended words number_of_word numbers_of line_at line_text
    unreadable_text refused_text refused_line case_text case_refused_text table_line pool_line one_at numbers_by numbers_from input_of case_line cases_of
    told printed
worked = refl
