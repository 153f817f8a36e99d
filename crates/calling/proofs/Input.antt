-- The lines of an input, one after another.
--   after_past, after_within, next_..         the place after a line
--   end_lf, end_all                           where the line ends, by its LF
--   turn_table, turn_call                     what a line does
--   Answering, answer_none, answer_more, answer_all, answer_not    an input, line by line
-- Assumes nothing.
use mathlib.Core.Path.{◌≡◌, refl, sym, ap, ◌∙◌}
use mathlib.Core.Bool.{Bool, true, false, not, cond}
use mathlib.Core.List.{List, [], ◌∷◌, ◌++◌, append_assoc, append-nil}
use Prim.Native.Nat.{ℕ, zero, suc, ◌+◌, ◌-◌, ◌≤◌, ◌<◌}
use native.Mathlib.Omega.{arith}
use lib.Dec.{eqb}
use lib.ListN.{length, take, drop, length-drop}
use borrow.Author.Tests.{le-leb, lt-leb, not-true, not-false}
use Rattle.std.specs.Prelude.{Option, Some, None, position}
use Rattle.std.specs.Cmp.Lexicographic.{pointwise}
use Rattle.texts.specs.Ascii.{bytes}
use Rattle.texts.specs.declared.page.Page.{Page}
use Rattle.texts.specs.Page.{Puts}
use Rattle.texts.specs.Said.{unreadable_text}
use Rattle.texts.proofs.page.Putting.{none, told, ◌then◌}
use Rattle.asking.specs.Same.{same}
use Rattle.asking.proofs.Comparing.{pointwise_same}
use Rattle.calling.specs.Line.{readable}
use Rattle.calling.specs.Calls.{Known, nothing, line_text}
use Rattle.calling.specs.Input.{line_size, after, line_of, is_table, said_at, next_at, next_known, printed_by, printed}
use Rattle.calling.specs.Desk.{known_of, Tables, Turns}
use Rattle.calling.specs.declared.desk.Desk.{Desk}
use Rattle.calling.proofs.Lines.{is_lf, size_lf, size_all}

-- ---- the place after a line
size_within : (l : List ℕ) → line_size l ≤ length l
unfolding line_size
size_within [] = omega arith
size_within (b ∷ bs) = by (eqb b 10) (size_within bs)
  where
    by : (q : Bool) → line_size bs ≤ length bs → cond q 1 (suc (line_size bs)) ≤ length (b ∷ bs)
    by true l = omega arith
    by false l = omega arith

size_past : (l : List ℕ) → 0 < length l → 0 < line_size l
unfolding line_size
size_past [] h = absurd (omega arith)
size_past (b ∷ bs) h = by (eqb b 10)
  where
    by : (q : Bool) → 0 < cond q 1 (suc (line_size bs))
    by true = omega arith
    by false = omega arith

module _ (text : List ℕ) (at : ℕ) where
  after_past : at < length text → at < after text at
  unfolding after
  after_past l = omega (arith, size_past (drop at text) (omega (arith, length-drop at text)))

  after_within : at ≤ length text → after text at ≤ length text
  unfolding after
  after_within l = omega (arith, size_within (drop at text), length-drop at text)

  after_from : at ≤ after text at
  unfolding after
  after_from = omega arith

  module _ {next : ℕ} (e : next ≡ after text at) where
    pub next_from : at ≤ next
    next_from = rw e after_from

    pub next_within : at ≤ length text → next ≤ length text
    next_within l = rw e (after_within l)

-- ---- where a line ends
module _ (text : List ℕ) (at : ℕ) {o : Option ℕ} (e : o ≡ position is_lf (drop at text)) where
  pub end_lf : {k : ℕ} → o ≡ Some k → at + k + 1 ≡ after text at
  unfolding after
  end_lf f = omega (arith, size_lf (drop at text) e f)

  pub end_all : at ≤ length text → o ≡ None → length text ≡ after text at
  unfolding after
  end_all l f = omega (arith, size_all (drop at text) e f, length-drop at text)

-- ---- what a line does
module _ (text : List ℕ) (at : ℕ) (l : at < length text) {next : ℕ} (n : next ≡ after text at) where
  line_is : take (next - at) (drop at text) ≡ line_of text at
  unfolding after line_of
  line_is = let e : next - at ≡ line_size (drop at text) = omega (arith, n) in rw e

  module _ {word : List ℕ} (w : word ≡ bytes "table\n") {b : Bool} (e : b ≡ pointwise eqb (take (next - at) (drop at text)) word) where
    tabled : is_table text at ≡ b
    tabled =
        sym (e ∙ rw w (pointwise_same (take (next - at) (drop at text)) (bytes "table\n")) ∙ ap (λ (xs : List ℕ). same xs (bytes "table\n")) line_is)

    pub turn_table : b ≡ true → {desk desk' : Desk} {page page' : Page} {r : ℕ} → Tables text next desk' page page' r → Turns text at desk desk' page page' r
    unfolding said_at next_at next_known
    turn_table t {r = r} k =
        let is : is_table text at ≡ true = tabled ∙ t in
        let a = after_within text at (omega arith) in
        let b = after_within text (after text at) a in
        let c = after_within text (after text (after text at)) b in
        let to : r ≡ after text (after text (after text at)) = rw n at k.to in
        record { to = rw is to; knows = rw is (rw n at k.knows); puts = rw is (rw n at k.puts); within = omega (arith, to, c) }

    pub turn_call : b ≡ false → {desk desk' : Desk} {page page' : Page} → Puts (line_text (known_of desk) (take (next - at) (drop at text))) page page'
        → known_of desk' ≡ known_of desk → Turns text at desk desk' page page' next
    unfolding said_at next_at next_known
    turn_call t {desk} g k =
        let is : is_table text at ≡ false = tabled ∙ t in
        record {
          to = rw is n;
          knows = rw is k;
          puts = rw is (told (ap (line_text (known_of desk)) line_is) g);
          within = omega (arith, n, after_within text at (omega arith));
        }

-- ---- an input, line by line
next_past : (text : List ℕ) (at : ℕ) → at < length text → at < next_at text at
unfolding next_at
next_past text at l = by (is_table text at)
  where
    by : (q : Bool) → at < cond q (after text (after text (after text at))) (after text at)
    by true = omega (arith, after_past text at l, after_from text (after text at), after_from text (after text (after text at)))
    by false = after_past text at l

pub record Answering (text : List ℕ) (old page : Page) (desk : Desk) (at : ℕ) : Type 0 where
  pub said : List ℕ
  pub times : ℕ
  pub enough : length text - at < times
  pub is : printed_by (suc (length text)) text 0 nothing ≡ said ++ printed_by times text at (known_of desk)
  pub so_far : Puts said old page

pub answer_none : {text : List ℕ} {old : Page} {desk : Desk} → desk.known ≡ None → Answering text old old desk 0
unfolding known_of
answer_none {text} e = record { said = []; times = suc (length text); enough = omega arith; is = rw e refl; so_far = none }

module _ {text : List ℕ} {old page : Page} {desk : Desk} {at : ℕ} (a : Answering text old page desk at) where
  module _ (l : at < length text) {desk' : Desk} {page' : Page} {r : ℕ} (t : Turns text at desk desk' page page' r) where
    pub answer_less : length text - r < length text - at
    answer_less = omega (arith, t.to, next_past text at l)

    step : (times : ℕ) → length text - at < times
        → (f : ℕ) × (times ≡ suc f) × (printed_by times text at (known_of desk) ≡ said_at text at (known_of desk) ++ printed_by f text r (known_of desk'))
    unfolding printed_by
    step zero h = absurd (omega arith)
    step (suc f) h =
        let said = said_at text at (known_of desk) in
        let next = next_known text at (known_of desk) in
        let to = ap (λ (n : ℕ). said ++ printed_by f text n next) (sym t.to) in
        (f, refl, rw (lt-leb (length text) at l) (to ∙ ap (λ (k : Known). said ++ printed_by f text r k) (sym t.knows)))

    pub answer_more : Answering text old page' desk' r
    answer_more =
        let (f, less, text-is) = step a.times a.enough in
        let new = said_at text at (known_of desk) in
        record {
          said = a.said ++ new;
          times = f;
          enough = omega (arith, a.enough, less, answer_less);
          is = a.is ∙ ap (λ (xs : List ℕ). a.said ++ xs) text-is ∙ sym (append_assoc a.said new (printed_by f text r (known_of desk')));
          so_far = a.so_far then t.puts;
        }

  over : (times : ℕ) → length text ≤ at → printed_by times text at (known_of desk) ≡ []
  unfolding printed_by
  over zero h = refl
  over (suc f) h = rw (le-leb (length text) at h)

  pub answer_all : {b : Bool} → b ≡ readable text → not b ≡ false → length text ≤ at → Puts (printed text) old page
  unfolding printed
  answer_all {b} e f h =
      let y : readable text ≡ true = sym e ∙ not-false b f in
      let all : printed_by (suc (length text)) text 0 nothing ≡ a.said = a.is ∙ ap (λ (xs : List ℕ). a.said ++ xs) (over a.times h) ∙ append-nil
      a.said in
      rw (y, all) a.so_far

pub answer_not : (text : List ℕ) {b : Bool} → b ≡ readable text → not b ≡ true → unreadable_text ≡ printed text
unfolding printed
answer_not text {b} e f = let n : readable text ≡ false = sym e ∙ not-true b f in rw n
