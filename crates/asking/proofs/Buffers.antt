-- The words of a lent buffer.
--   filled_length, Filling, fill_more, fill_all    start words, one by one
--   Looking, look_..                             words that have not changed
--   start_kept                                   start words that a call left have not
--   end_changed, end_kept                        the end of a line
--   end_done, end_left                           the end of the line of a call that wrote, and of one that did not
-- Assumes nothing.
use mathlib.Core.Path.{◌≡◌, refl, sym, ap, ◌∙◌}
use mathlib.Core.Bool.{Bool, true, false, not, ◌||◌}
use mathlib.Core.List.{List, ◌++◌, append-nil}
use Prim.Native.Nat.{ℕ, zero, suc, ◌+◌, ◌≤◌, ◌<◌}
use native.Mathlib.Numerals.{add-one}
use native.Mathlib.Omega.{arith}
use lib.Dec.{eqb}
use lib.ListN.{length, get_or, take, drop, set, drop_of_length-le}
use lib.Seq.{drop-cons, take_all}
use borrow.Author.Tests.{ne_eqb, eq-eqb}
use Rattle.lists.specs.Filled.{over}
use Rattle.lists.proofs.Fills.{over_back}
use Rattle.texts.proofs.Fronts.{front_more}
use Rattle.texts.specs.Ascii.{bytes}
use Rattle.asking.specs.Buffer.{start_word, start_words, changed}
use Rattle.texts.specs.declared.page.Page.{Page}
use Rattle.texts.specs.Page.{Puts}
use Rattle.asking.specs.Texts.{end_text}

-- ---- start words, one by one
start_length : (place count : ℕ) → length (start_words place count) ≡ count
unfolding start_words
start_length place zero = refl
start_length place (suc count) = ap suc (start_length (suc place) count)

-- a buffer that was filled is as long as it was
pub filled_length : (old : List ℕ) {filled : List ℕ} → filled ≡ start_words 0 (length old) → length filled ≡ length old
filled_length old e = ap length e ∙ start_length 0 (length old)

start_at : (place count i : ℕ) → i < count → get_or (start_words place count) i 0 ≡ start_word (place + i)
unfolding start_words
start_at place zero i l = absurd (omega arith)
start_at place (suc count) zero l = let e : place + 0 ≡ place = omega arith in rw e
start_at place (suc count) (suc i) l = let e : suc place + i ≡ place + suc i = omega arith in start_at (suc place) count i (omega arith) ∙ ap start_word e

pub record Filling (old now : List ℕ) (i : ℕ) : Type 0 where
  pub few : i ≤ length old
  pub so_far : now ≡ take i (start_words 0 (length old)) ++ drop i old

module _ {old now : List ℕ} {i : ℕ} (s : Filling old now i) where
  pub fill_more : i < length old → {w : ℕ} → w ≡ start_word i → Filling old (set now i w) (i + 1)
  fill_more l {w} e =
      record {
        few = omega arith;
        so_far = rw s.so_far (front_more (start_words 0 (length old)) old i w (omega (arith, start_length 0 (length old))) l
            (e ∙ let z : 0 + i ≡ i = omega arith in sym (rw z at (start_at 0 (length old) i l))));
      }

  pub fill_all : length old ≤ i → now ≡ start_words 0 (length old)
  fill_all l =
      let e = take_all i (start_words 0 (length old)) (omega (arith, start_length 0 (length old))) in
      s.so_far ∙ rw (e, drop_of_length-le old {i = i} l) (append-nil (start_words 0 (length old)))

-- ---- words that have not changed
pub record Looking (buffer : List ℕ) (from i : ℕ) : Type 0 where
  pub rest : changed from (drop from buffer) ≡ changed i (drop i buffer)

module _ {buffer : List ℕ} {from i : ℕ} (s : Looking buffer from i) where
  at_word : i < length buffer → {b : Bool} → eqb (get_or buffer i 0) (start_word i) ≡ b
      → changed from (drop from buffer) ≡ not b || changed (suc i) (drop (suc i) buffer)
  unfolding changed
  at_word l e = s.rest ∙ ap (changed i) (drop-cons buffer i 0 l) ∙ ap (λ (b : Bool). not b || changed (suc i) (drop (suc i) buffer)) e

  pub look_more : i < length buffer → {w : ℕ} → w ≡ start_word i → get_or buffer i 0 ≡ w → Looking buffer from (i + 1)
  look_more l e q = record { rest = rw add-one (at_word l (eq-eqb (get_or buffer i 0) (start_word i) (q ∙ e))) }

  pub look_changed : i < length buffer → {w : ℕ} → w ≡ start_word i → (get_or buffer i 0 ≡ w → ⊥) → true ≡ changed from (drop from buffer)
  look_changed l e f = sym (at_word l (ne_eqb (get_or buffer i 0) (start_word i) (λ q. f (q ∙ sym e))))

  pub look_all : length buffer ≤ i → false ≡ changed from (drop from buffer)
  unfolding changed
  look_all l = sym (s.rest ∙ ap (changed i) (drop_of_length-le buffer {i = i} l))

-- ---- start words that a call left
kept_all : (place count : ℕ) → changed place (start_words place count) ≡ false
unfolding start_words changed
kept_all place zero = refl
kept_all place (suc count) = rw (eq-eqb (start_word place) (start_word place) refl) (kept_all (suc place) count)

kept_from : (place count k : ℕ) → changed (place + k) (drop k (start_words place count)) ≡ false
unfolding start_words changed
kept_from place count zero = let e : place + 0 ≡ place = omega arith in rw e (kept_all place count)
kept_from place zero (suc k) = refl
kept_from place (suc count) (suc k) = let e : place + suc k ≡ suc place + k = omega arith in rw e (kept_from (suc place) count k)

start_kept : (count k : ℕ) → changed k (drop k (start_words 0 count)) ≡ false
start_kept count k = let e : 0 + k ≡ k = omega arith in rw e at (kept_from 0 count k)

-- ---- the end of a line
module _ (buffer : List ℕ) (from : ℕ) {b : Bool} (e : b ≡ changed from (drop from buffer)) {old last : Page} where
  pub end_changed : b ≡ true → Puts (bytes " CHANGED\n") old last → Puts (end_text buffer from) old last
  unfolding end_text
  end_changed t p = rw (← e, t) p

  pub end_kept : b ≡ false → Puts (bytes "\n") old last → Puts (end_text buffer from) old last
  unfolding end_text
  end_kept t p = rw (← e, t) p

-- ---- a lent buffer that a call wrote to, and one that it left
pub end_done : (n : ℕ) (cs old : List ℕ) {count : ℕ} {last : List ℕ} → count ≡ length cs → last ≡ over cs old → old ≡ start_words 0 n
    → end_text last count ≡ bytes "\n"
unfolding end_text
end_done n cs old size holds start = rw (holds, size, over_back cs old, start, start_kept n (length cs))

pub end_left : (n : ℕ) {last old : List ℕ} → last ≡ old → old ≡ start_words 0 n → end_text last 0 ≡ bytes "\n"
unfolding end_text
end_left n e start = rw (e, start, start_kept n 0)
