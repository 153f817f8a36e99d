-- Worked prints of calls, computed: what each text prints, beside what it must print. The tables are 01's L and a table of one below 2.
--   prints, worked    the list and the theorem
-- Assumes nothing.
use mathlib.Core.Path.{◌≡◌, refl}
use mathlib.Core.List.{List, [], ◌∷◌, map}
use Prim.Native.Nat.{ℕ}
use Prim.Native.String.{String}
use Rattle.walk.proofs.Opened.{walking}
use Rattle.checked.specs.Opening.{opening}
use Rattle.checked.specs.Fits.{fitted}
use Rattle.checked.specs.Item.{front_of, whole_of}
use Rattle.cases.specs.Write.{writes}
use Rattle.cases.specs.Read.{reads}
use Rattle.rows.specs.WriteRow.{writes_row}
use Rattle.rows.specs.WriteRow as Written
use Rattle.rows.specs.ReadRow.{gather, reads_row}
use Rattle.rows.specs.Reader.{next, next_of}
use Rattle.texts.specs.Ascii.{bytes}
use Rattle.texts.specs.Numeral.{run, value_from, well_formed, numeral}
use Rattle.texts.specs.Decimal.{decimal_by, decimal}
use Rattle.texts.specs.Line.{ended, words, number_of as number_of_word, numbers_of, line_at}
use Rattle.texts.specs.Line.{spaced}
use Rattle.texts.specs.Said.{unreadable_text, refused_text, refused_line}
use Rattle.asking.specs.Texts.{number_line, item_text, refused_item, items_text, cells_text}
use Rattle.calling.specs.Line.{readable, word_size}
use Rattle.asking.specs.Same.{same}
use Rattle.case_calls.specs.Check.{check_text, check_call}
use Rattle.case_calls.specs.Read.{found_text, read_text, read_call}
use Rattle.case_calls.specs.Write.{write_text, case_text, alone, write_call}
use Rattle.row_calls.specs.Row.{row_text}
use Rattle.row_calls.specs.WriteRow.{write_row_text, write_row_call}
use Rattle.row_calls.specs.ReadRow.{read_row_text, read_row_call}
use Rattle.row_calls.specs.Reader.{asks_by, asks_text, reader_call}
use Rattle.calling.specs.Calls.{chosen, line_text}
use Rattle.calling.specs.Input.{line_size, after, line_of, table_at, said_at, next_at, next_known, printed_by, printed}

data Print : Type 0 where
  prints_as : String → String → Print

abbrev asked : Print → List ℕ
asked (prints_as text print) = printed (bytes text)

abbrev expected : Print → List ℕ
expected (prints_as text print) = bytes print

abbrev prints : List Print
prints =
    prints_as "table\n0 1 0 1 0 0 9 5 0 5 1 2 4 0 3 8 4 0\n\ncheck\nwrite 5 9 43\nread 5 1 6 0 0\n" "accepted\n4 cells: 1 6 0 0\nnumber 43\n"
    ∷ prints_as "table\n0 1 0 1 0 0 9 5 0 5 1 2 4 0 3 8 4 0\n\nwrite-row 5 10 1 0 3\nread-row 5 3 1 0 0 0 0 0 1 1 0 0\n"
    "3 items, 10 cells: 1 0 0 0 0 0 1 1 0 0\n3 items, 10 cells: 1 0 3\n"
    ∷ prints_as "table\n0 1 0 1 0 0 9 5 0 5 1 2 4 0 3 8 4 0\n\nreader 5 1 0 0 0 0 0 1 1 0 0\nreader 5 0 0 1\n"
    "number 1, 4 cells\nnumber 0, 2 cells\nnumber 3, 4 cells\nend\nnumber 0, 2 cells\nrefused 15 at 0\n"
    ∷ prints_as "table\n0 2 0\n\nwrite 0 0 1\nwrite 0 1 2\nread 0 2\nread 0\nwrite 1 1 0\n"
    "refused 14 at 0\nrefused 12 at 0\nrefused 15 at 0\nrefused 15 at 0\nrefused 11 at 0\n"
    ∷ prints_as "table\n0 2 0\n\nwrite-row 0 1 1 1\nread-row 0 1 1 1\nread-row 0 2 1 2\nwrite-row 0 0\nreader 0\n"
    "refused 14 at 0 item 1\nrefused 14 at 0 item 1\nrefused 15 at 0 item 1\n0 items, 0 cells:\nend\n"
    ∷ prints_as "table\n1 0 0 0 0 0\n\ncheck\nread 0 7\nwrite-row 0 2 7\n" "refused 5 at 1\nrefused 5 at 1\nrefused 5 at 1 item 0\n"
    ∷ prints_as "check\ntable\n0 2 0\n\ncheck \ncheck 1\nwrite 0 1\nwrite 0 1 1 1\nwrite 0 70001 1\nread\nreads 0 1\n\n"
    "unreadable\nunreadable\nunreadable\nunreadable\nunreadable\nunreadable\nunreadable\nunreadable\nunreadable\n"
    ∷ prints_as "table\n0 02 0\n\ncheck\ntable\n2 0 1\n7\nread 0 7\n" "unreadable\nunreadable\nnumber 0\n"
    ∷ prints_as "table\n\n\ncheck\ntable\n" "refused 1 at 0\nunreadable\n"
    ∷ prints_as "check" "unreadable\n"
    ∷ prints_as "" ""
    ∷ []

worked : map asked prints ≡ map expected prints
unfolding walking fitted opening front_of whole_of writes reads writes_row Written.in_turn Written.row_of gather reads_row next next_of run value_from
    well_formed numeral decimal_by decimal ended words number_of_word numbers_of line_at unreadable_text number_line item_text refused_text
    refused_line refused_item items_text spaced cells_text readable word_size same check_text check_call found_text read_text read_call write_text
    case_text alone write_call row_text write_row_text write_row_call read_row_text read_row_call asks_by asks_text reader_call chosen line_text line_size
    after line_of table_at said_at next_at next_known printed_by printed
worked = refl
