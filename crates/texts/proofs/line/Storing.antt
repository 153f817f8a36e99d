-- The numbers of a line, stored one by one.
--   Storing    what is known at a place: the numbers stored so far, and those of the rest
--   store_start, store_not, store_within, store_more    the loop's steps
-- Assumes nothing.
use mathlib.Core.Path.{◌≡◌, refl, sym, ap, ◌∙◌}
use mathlib.Core.Bool.{Bool, true, false}
use mathlib.Core.List.{List, [], ◌∷◌, ◌++◌}
use Prim.Native.Nat.{ℕ, ◌+◌, ◌≤◌, ◌<◌}
use native.Mathlib.Numerals.{add-one}
use native.Mathlib.Omega.{arith}
use lib.Dec.{ltb, eqb}
use lib.ListN.{length, get_or, take, drop, set, length-drop}
use lib.Seq.{drop-cons}
use borrow.Author.Tests.{ltb-true, ltb-false, eqb-true, eqb-false}
use Rattle.texts.specs.Numeral.{numeral_at}
use Rattle.texts.specs.Line.{Reading, numbers, unreadable, line_at, HasCount}
use Rattle.texts.specs.declared.numeral.Numeral.{Numeral}
use Rattle.std.specs.Prelude.{Option, Some, None}
use Rattle.texts.proofs.Fronts.{front_more}
use Rattle.texts.proofs.line.Answered.{readable_not}
use Rattle.texts.proofs.line.Rest.{rest_at, onto, line_some, rest_not, rest_over, rest_lf, rest_space, rest_other}

-- ---- one number of the rest
record Step (text : List ℕ) (n : Numeral) (m : ℕ) (ms : List ℕ) (next : ℕ) : Type 0 where
  inside : n.end < length text
  number : n.value ≡ m
  further : 0 < length ms → rest_at text (n.end + 1) ≡ numbers ms next

module _ (text : List ℕ) (i : ℕ) {n : Numeral} (here : numeral_at text i ≡ Some n) (m : ℕ) (ms : List ℕ) (next : ℕ)
    (r : rest_at text i ≡ numbers (m ∷ ms) next) where
  spaced : n.end < length text → (x : Reading) → rest_at text (n.end + 1) ≡ x → onto n.value x ≡ numbers (m ∷ ms) next → Step text n m ms next
  spaced l (numbers ns end) t f =
      let same : numbers ns end ≡ numbers ms next = cc in
      record { inside = l; number = (cc); further = λ h. t ∙ same }
  spaced l unreadable t f = absurd (readable_not f)

  step : Step text n m ms next
  step = by (ltb n.end (length text)) (eqb (get_or text n.end 0) 10) (eqb (get_or text n.end 0) 32) refl refl refl
    where
      last : n.end < length text → numbers (n.value ∷ []) (n.end + 1) ≡ numbers (m ∷ ms) next → Step text n m ms next
      last l f = let z : ◌≡◌ {A = List ℕ} [] ms = cc in record { inside = l; number = (cc); further = λ h. absurd (omega (arith, ap length z)) }

      by : (a b c : Bool) → ltb n.end (length text) ≡ a → eqb (get_or text n.end 0) 10 ≡ b → eqb (get_or text n.end 0) 32 ≡ c → Step text n m ms next
      by false b c p q s = absurd (readable_not (sym (rest_over text i here (ltb-false n.end (length text) p)) ∙ r))
      by true true c p q s =
          let l = ltb-true n.end (length text) p in
          last l (sym (rest_lf text i here l (eqb-true (get_or text n.end 0) 10 q)) ∙ r)
      by true false true p q s =
          let l = ltb-true n.end (length text) p in
          spaced l (rest_at text (n.end + 1)) refl (sym (rest_space text i here l (eqb-true (get_or text n.end 0) 32 s)) ∙ r)
      by true false false p q s =
          let l = ltb-true n.end (length text) p in
          absurd (readable_not (sym (rest_other text i here l (eqb-false (get_or text n.end 0) 10 q) (eqb-false (get_or text n.end 0) 32 s)) ∙ r))

-- ---- the loop
pub record Storing (text : List ℕ) (at : ℕ) (old out : List ℕ) (i k : ℕ) : Type 0 where
  pub ns : List ℕ
  pub next : ℕ
  pub is : line_at text at ≡ numbers ns next
  pub size : length ns ≡ length old
  pub few : k ≤ length old
  pub so_far : out ≡ take k ns ++ drop k old
  pub rest : k < length old → rest_at text i ≡ numbers (drop k ns) next

pub store_start : {text : List ℕ} {at : ℕ} {old : List ℕ} → HasCount (length old) (line_at text at) → Storing text at old old at 0
store_start {text} {at} {old} h = by (line_at text at) refl h
  where
    by : (x : Reading) → line_at text at ≡ x → HasCount (length old) x → Storing text at old old at 0
    by (numbers ns next) e c =
        record {
          ns = ns;
          next = next;
          is = e;
          size = c;
          few = omega arith;
          so_far = refl;
          rest = λ l. line_some text at e (omega arith);
        }
    by unreadable e c = absurd c

module _ {text : List ℕ} {at : ℕ} {old out : List ℕ} {i k : ℕ} (s : Storing text at old out i k) where
  module _ (h : k < length old) {r : Option Numeral} (a : r ≡ numeral_at text i) where
    pub store_not : r ≡ None → ⊥
    store_not e = readable_not (sym (rest_not text i (sym a ∙ e)) ∙ s.rest h)

    module _ {n : Numeral} (g : r ≡ Some n) where
      one : Step text n (get_or s.ns k 0) (drop (k + 1) s.ns) s.next
      one =
          let w : k < length s.ns = omega arith in
          step text i (sym a ∙ g) (get_or s.ns k 0) (drop (k + 1) s.ns) s.next (rw (add-one, ← drop-cons s.ns k 0 w) (s.rest h))

      pub store_within : n.end < length text
      store_within = one.inside

      pub store_more : Storing text at old (set out k n.value) (n.end + 1) (k + 1)
      store_more =
          record {
            ns = s.ns;
            next = s.next;
            is = s.is;
            size = s.size;
            few = omega arith;
            so_far = rw s.so_far (front_more s.ns old k n.value (omega arith) (omega arith) one.number);
            rest = λ l. one.further (rw length-drop (omega arith));
          }
