-- What an input prints.
--   case_line   the line of one number
--   printed    the whole print of a text
--   Answers    the lines of the numbers from a place on are put on a page
--   Judges     the same of an input whose table and start node are not judged yet
-- Assumes nothing.
use Rattle.std.specs.Prelude.{◌≡◌, List, [], ◌∷◌, ◌++◌, ℕ, Some, Ok, Err}
use Rattle.grammar.specs.Sizes.{rules_of}
use Rattle.checked.specs.Opening.{judged, opening}
use Rattle.checked.specs.Fits.{case_cells}
use Rattle.cases.specs.Write.{Written, writes}
use Rattle.texts.specs.declared.page.Page.{Page}
use Rattle.texts.specs.Page.{Puts}
use Rattle.texts.specs.Said.{unreadable_text, refused_line}
use Rattle.printing.specs.Texts.{case_text, case_refused_text}
use Rattle.printing.specs.Input.{Input, asks, unclear, numbers_from, input_of}

-- "The program has room for 4,096 cells, so a longer case is refused 14."
abbrev pub room : ℕ
room = 4096

abbrev pub case_by : ℕ → List ℕ → Written → List ℕ
case_by n cs (Ok count) = case_text n cs
case_by n cs (Err e) = case_refused_text n e.refusal

unfoldable pub case_line : List ℕ → List ℕ → ℕ → ℕ → List ℕ
case_line t p i n = case_by n (case_cells (rules_of t p) i n) (writes t p i n room)

unfoldable pub cases_of : List ℕ → List ℕ → ℕ → List ℕ → List ℕ
cases_of t p i [] = []
cases_of t p i (n ∷ ns) = case_line t p i n ++ cases_of t p i ns

-- "A refused table or start prints only `refused N at K` .. Otherwise each number prints"
unfoldable pub told : Input → List ℕ
told (asks t p i ns) = judged (λ e. refused_line e.refusal e.node) (opening t p i) (cases_of t p i ns)
told unclear = unreadable_text

unfoldable pub printed : List ℕ → List ℕ
printed text = told (input_of text)

-- ---- what is put on a page, where the lines from a place on are numbers
pub record Answers (text : List ℕ) (at : ℕ) (t p : List ℕ) (i : ℕ) (old last : Page) : Type 0 where
  pub lines : (ns : List ℕ) → numbers_from text at ≡ Some ns → Puts (cases_of t p i ns) old last

pub record Judges (text : List ℕ) (at : ℕ) (t p : List ℕ) (i : ℕ) (old last : Page) : Type 0 where
  pub print : (ns : List ℕ) → numbers_from text at ≡ Some ns
      → Puts (judged (λ e. refused_line e.refusal e.node) (opening t p i) (cases_of t p i ns)) old last
