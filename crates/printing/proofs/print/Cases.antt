-- The lines of numbers.
--   case_done, case_refused               of one, by what was written
--   Gone, Going, go_none, go_more, go_all of the numbers from a place on, one by one
-- Assumes nothing.
use mathlib.Core.Path.{◌≡◌, refl, sym, ap, ◌∙◌}
use mathlib.Core.Bool.{Bool, true, false}
use mathlib.Core.List.{List, [], ◌∷◌, ◌++◌, append-nil, append_assoc}
use Rattle.std.specs.Prelude.{Option, Some, None, option_map}
use Prim.Native.Nat.{ℕ}
use native.Mathlib.Omega.{arith}
use lib.Dec.{leb}
use lib.ListN.{length, take}
use borrow.Author.Tests.{leb-true, leb-false}
use Rattle.grammar.specs.declared.refusal.Refused.{Refused}
use Rattle.std.specs.Prelude.{Ok, Err}
use Rattle.cases.specs.Write.{Written, writes, Wrote}
use Rattle.cases.proofs.Counted.{written_cells}
use Rattle.cases.proofs.Values.{wrote_is}
use Rattle.texts.specs.declared.page.Page.{Page}
use Rattle.texts.specs.Page.{Puts}
use Rattle.texts.proofs.page.Putting.{none as put-nothing, ◌then◌}
use Rattle.printing.specs.Texts.{case_text, case_refused_text}
use Rattle.printing.specs.Input.{one_at, numbers_from}
use Rattle.printing.specs.Printed.{room, case_line, cases_of, Answers}
use Rattle.printing.specs.declared.input.One.{One}
use Rattle.printing.proofs.input.Numbers.{one_within, numbers_end, numbers_more, numbers_not}

-- ---- one number
module _ {t p : List ℕ} {i n : ℕ} {old last : List ℕ} {w : Written} (k : Wrote t p i n old last w) (size : length old ≡ room) where
  wrote : writes t p i n room ≡ w
  wrote = sym (rw size at (wrote_is k))

  pub case_done : (count : ℕ) → w ≡ Ok count → {page after : Page} → Puts (case_text n (take count last)) page after
      → Puts (case_line t p i n) page after
  unfolding case_line
  case_done count e g = rw (wrote, e, ← written_cells k count e) g

  pub case_refused : {x : Refused} → w ≡ Err x → {page after : Page} → Puts (case_refused_text n x.refusal) page after
      → Puts (case_line t p i n) page after
  unfolding case_line
  case_refused e g = rw (wrote, e) g

-- ---- the numbers from a place on
-- a line that is no number, where the rest of the text is readable: there is no more line
at_end : (text : List ℕ) (at : ℕ) {ns : List ℕ} → numbers_from text at ≡ Some ns → one_at text at ≡ None → ns ≡ []
at_end text at {ns} e o = by (leb (length text) at) refl
  where
    by : (q : Bool) → leb (length text) at ≡ q → ns ≡ []
    by true f = let same : Some ns ≡ Some [] = sym e ∙ numbers_end text at (leb-true (length text) at f) in cc
    by false f = let not : Some ns ≡ None = sym e ∙ numbers_not text at (leb-false (length text) at f) o in cc

record Rest (n : ℕ) (ns : List ℕ) (o : Option (List ℕ)) : Type 0 where
  ms : List ℕ
  is : o ≡ Some ms
  all : ns ≡ n ∷ ms

rest_of : (n : ℕ) (ns : List ℕ) (o : Option (List ℕ)) → option_map (n ∷◌) o ≡ Some ns → Rest n ns o
rest_of n ns None e = cc
rest_of n ns (Some ms) e = let same : n ∷ ms ≡ ns = cc in record { ms = ms; is = refl; all = sym same }

pub record Gone (text t p : List ℕ) (i : ℕ) (ns : List ℕ) (old now : Page) (at : ℕ) : Type 0 where
  pub said : List ℕ
  pub rest : List ℕ
  pub here : numbers_from text at ≡ Some rest
  pub is : cases_of t p i ns ≡ said ++ cases_of t p i rest
  pub so_far : Puts said old now

-- where the lines from the first place on are numbers, some of them are answered, and the others stand from a place on
pub record Going (text : List ℕ) (from : ℕ) (t p : List ℕ) (i : ℕ) (old now : Page) (at : ℕ) : Type 0 where
  pub gone : (ns : List ℕ) → numbers_from text from ≡ Some ns → Gone text t p i ns old now at

pub go_none : {text : List ℕ} {from : ℕ} {t p : List ℕ} {i : ℕ} {old : Page} → Going text from t p i old old from
go_none = record { gone = λ ns e. record { said = []; rest = ns; here = e; is = refl; so_far = put-nothing } }

module _ {text : List ℕ} {from : ℕ} {t p : List ℕ} {i : ℕ} {old now : Page} {at : ℕ} (s : Going text from t p i old now at) {o : Option One}
    (e : o ≡ one_at text at) where
  pub go_more : {one : One} → o ≡ Some one → {last : Page} → Puts (case_line t p i one.number) now last → Going text from t p i old last one.next
  unfolding cases_of
  go_more {one} q {last} g = record { gone = λ ns f. more (s.gone ns f) }
    where
      more : {ns : List ℕ} → Gone text t p i ns old now at → Gone text t p i ns old last one.next
      more x =
          let w = one_within text at (sym e ∙ q) in
          let y = rest_of one.number x.rest (numbers_from text one.next) (sym (numbers_more text at (omega arith) (sym e ∙ q)) ∙ x.here) in
          record {
            said = x.said ++ case_line t p i one.number;
            rest = y.ms;
            here = y.is;
            is = x.is ∙ ap (λ (ms : List ℕ). x.said ++ cases_of t p i ms) y.all ∙ sym (append_assoc x.said (case_line t p i one.number) (cases_of t p i y.ms));
            so_far = x.so_far then g;
          }

  pub go_all : o ≡ None → Answers text from t p i old now
  unfolding cases_of
  go_all q = record { lines = λ ns f. all (s.gone ns f) }
    where
      all : {ns : List ℕ} → Gone text t p i ns old now at → Puts (cases_of t p i ns) old now
      all x = rw (x.is, at_end text at x.here (sym e ∙ q), append-nil x.said) x.so_far
