-- The rest of a line from a place on at which a number is to start, number by number.
--   rest_at                 the numbers from a place on, and the place after the LF
--   onto                   a number in front of those
--   rest_some              there is one at least, where it is readable
--   line_over, line_empty, line_rest, line_some    a line and its rest
--   rest_not, rest_over, rest_lf, rest_space, rest_other    by what stands there and behind it
-- Assumes nothing.
use mathlib.Core.Path.{◌≡◌, refl, sym, ap, ◌∙◌}
use mathlib.Core.Bool.{Bool, true, false}
use mathlib.Core.List.{List, [], ◌∷◌, ◌++◌, append-nil}
use Rattle.std.specs.Prelude.{Option, Some, None, option_map}
use Prim.Native.Nat.{ℕ, suc, ◌+◌, ◌≤◌, ◌<◌}
use native.Mathlib.Numerals.{add-one}
use native.Mathlib.Omega.{arith}
use lib.Dec.{eqb}
use lib.ListN.{length, get_or, drop, length-append, drop_of_length-le}
use lib.Seq.{drop-cons, drop-drop}
use borrow.Author.Tests.{ne_eqb, eqb-true}
use Rattle.texts.specs.Ascii.{is_digit}
use Rattle.texts.specs.Numeral.{run, numeral_at}
use Rattle.texts.specs.Line.{Reading, numbers, unreadable, ended, words, number_of, both, numbers_of, up_to, line_by, line_at}
use Rattle.texts.specs.declared.numeral.Numeral.{Numeral}
use Rattle.texts.proofs.numeral.Digits.{Digits, Stops, run_digits, run_stops, run_split, numeral_of}
use Rattle.texts.proofs.line.Words.{ended_digits, words_some, words_digits, number_of_lem, number_not, number_other}

abbrev rest_by : ℕ → Option (List ℕ) → Reading
rest_by i (Some line) = up_to (i + length line + 1) (numbers_of (words line))
rest_by i None = unreadable

pub rest_at : List ℕ → ℕ → Reading
rest_at text i = rest_by i (ended (drop i text))

abbrev pub onto : ℕ → Reading → Reading
onto v (numbers ns next) = numbers (v ∷ ns) next
onto v unreadable = unreadable

onto_up : (v next : ℕ) (o : Option (List ℕ)) → up_to next (both (Some v) o) ≡ onto v (up_to next o)
onto_up v next None = refl
onto_up v next (Some ns) = refl

-- ---- the rest has a number, or is unreadable
abbrev pub HasSome : Reading → Type 0
HasSome (numbers ns next) = 0 < length ns
HasSome unreadable = Unit {0}

pub rest_some : (text : List ℕ) (i : ℕ) → HasSome (rest_at text i)
unfolding rest_at
rest_some text i = by (ended (drop i text))
  where
    first : (next : ℕ) (n : Option ℕ) (ns : Option (List ℕ)) → HasSome (up_to next (both n ns))
    first next None ns = tt
    first next (Some n) None = tt
    first next (Some n) (Some ns) = omega arith

    by : (o : Option (List ℕ)) → HasSome (rest_by i o)
    by None = tt
    by (Some line) = let w = words_some line in unfold numbers_of in rw w.is (first (i + length line + 1) (number_of w.first) (numbers_of w.others))

-- ---- digits and what stands behind them
module _ (i : ℕ) (ds : List ℕ) (h : Digits ds) where
  -- one word to the line's end
  module _ (line w : List ℕ) (ws : List (List ℕ)) (e : words line ≡ w ∷ ws) where
    first_word : rest_by i (Some (ds ++ line)) ≡ up_to (i + length (ds ++ line) + 1) (both (number_of (ds ++ w)) (numbers_of ws))
    unfolding numbers_of
    first_word = rw (words_digits ds line w ws h e)

  two_words : (v : ℕ) (l : List ℕ) → number_of ds ≡ Some v → rest_by i (Some (ds ++ 32 ∷ l)) ≡ onto v (rest_by (i + length ds + 1) (Some l))
  unfolding words
  two_words v l n =
      let size : i + length (ds ++ 32 ∷ l) + 1 ≡ i + length ds + 1 + length l + 1 = omega (arith, length-append ds (32 ∷ l)) in
      rw (first_word (32 ∷ l) [] (words l) refl, append-nil, n, size) (onto_up v (i + length ds + 1 + length l + 1) (numbers_of (words l)))

  no_words : (l : List ℕ) → number_of ds ≡ None → rest_by i (Some (ds ++ 32 ∷ l)) ≡ unreadable
  unfolding words
  no_words l n = rw (first_word (32 ∷ l) [] (words l) refl, append-nil, n)

  long_word : (b : ℕ) (l : List ℕ) → is_digit b ≡ false → eqb b 32 ≡ false → rest_by i (Some (ds ++ b ∷ l)) ≡ unreadable
  unfolding words
  long_word b l d g =
      let w = words_some l in
      rw (first_word (b ∷ l) (b ∷ w.first) w.others (rw (g, w.is)), number_other ds h b w.first d)

  end_of_text : rest_by i (ended (ds ++ [])) ≡ unreadable
  unfolding ended
  end_of_text = rw (ended_digits ds [] h)

  at_lf : (rest : List ℕ) → rest_by i (ended (ds ++ 10 ∷ rest)) ≡ up_to (i + length ds + 1) (both (number_of ds) (Some []))
  unfolding ended words numbers_of
  at_lf rest = rw (ended_digits ds (10 ∷ rest) h, first_word [] [] [] refl, append-nil)

  further : (b : ℕ) (rest : List ℕ) → eqb b 10 ≡ false → ended (ds ++ b ∷ rest) ≡ option_map (λ l. ds ++ b ∷ l) (ended rest)
  unfolding ended
  further b rest f = rw (ended_digits ds (b ∷ rest) h, f) (by (ended rest))
    where
      by : (o : Option (List ℕ)) → option_map (ds ++◌) (option_map (b ∷◌) o) ≡ option_map (λ l. ds ++ b ∷ l) o
      by None = refl
      by (Some l) = refl

  at_space : (v : ℕ) (rest : List ℕ) → number_of ds ≡ Some v → rest_by i (ended (ds ++ 32 ∷ rest)) ≡ onto v (rest_by (i + length ds + 1) (ended rest))
  at_space v rest n = rw (further 32 rest refl) (by (ended rest))
    where
      by : (o : Option (List ℕ)) → rest_by i (option_map (λ l. ds ++ 32 ∷ l) o) ≡ onto v (rest_by (i + length ds + 1) o)
      by None = refl
      by (Some l) = two_words v l n

  at_other : (b : ℕ) (rest : List ℕ) → is_digit b ≡ false → eqb b 10 ≡ false → eqb b 32 ≡ false → rest_by i (ended (ds ++ b ∷ rest)) ≡ unreadable
  at_other b rest d f g = rw (further b rest f) (by (ended rest))
    where
      by : (o : Option (List ℕ)) → rest_by i (option_map (λ l. ds ++ b ∷ l) o) ≡ unreadable
      by None = refl
      by (Some l) = long_word b l d g

  no_number : number_of ds ≡ None → (rest : List ℕ) → Stops rest → rest_by i (ended (ds ++ rest)) ≡ unreadable
  no_number n [] s = end_of_text
  no_number n (b ∷ rest) s = by (eqb b 10) (eqb b 32) refl refl
    where
      spaced : (o : Option (List ℕ)) → rest_by i (option_map (λ l. ds ++ 32 ∷ l) o) ≡ unreadable
      spaced None = refl
      spaced (Some l) = no_words l n

      by : (p q : Bool) → eqb b 10 ≡ p → eqb b 32 ≡ q → rest_by i (ended (ds ++ b ∷ rest)) ≡ unreadable
      by true true e f = rw (eqb-true b 10 e, at_lf rest, n)
      by true false e f = rw (eqb-true b 10 e, at_lf rest, n)
      by false true e f = rw (eqb-true b 32 f, further 32 rest refl) (spaced (ended rest))
      by false false e f = at_other b rest s e f

-- ---- at a place of a text
module _ (text : List ℕ) (i : ℕ) where
  behind : {e : ℕ} → e ≡ i + length (run (drop i text)) → drop i text ≡ run (drop i text) ++ drop e text
  behind q = run_split (drop i text) ∙ ap (run (drop i text) ++◌) (drop-drop (length (run (drop i text))) i text ∙ ap (λ (n : ℕ). drop n text) (sym q))

  stops : {e : ℕ} → e ≡ i + length (run (drop i text)) → Stops (drop e text)
  stops q = rw (q, ← drop-drop (length (run (drop i text))) i text) (run_stops (drop i text))

  pub rest_not : numeral_at text i ≡ None → rest_at text i ≡ unreadable
  unfolding rest_at
  rest_not n =
      rw (behind refl)
      (no_number i (run (drop i text)) (run_digits (drop i text)) (number_not (run (drop i text)) (run_digits (drop i text)) i n)
      (drop (i + length (run (drop i text))) text) (stops refl))

  module _ {m : Numeral} (n : numeral_at text i ≡ Some m) where
    end : m.end ≡ i + length (run (drop i text))
    end = (numeral_of (run (drop i text)) i n).0

    is_number : number_of (run (drop i text)) ≡ Some m.value
    is_number = number_of_lem (run (drop i text)) (run_digits (drop i text)) i n

    pub rest_over : length text ≤ m.end → rest_at text i ≡ unreadable
    unfolding rest_at
    rest_over l = rw (behind end, drop_of_length-le text l) (end_of_text i (run (drop i text)) (run_digits (drop i text)))

    module _ (l : m.end < length text) where
      byte : drop m.end text ≡ get_or text m.end 0 ∷ drop (m.end + 1) text
      byte = rw (add-one, drop-cons text m.end 0 l)

      pub rest_lf : get_or text m.end 0 ≡ 10 → rest_at text i ≡ numbers (m.value ∷ []) (m.end + 1)
      unfolding rest_at
      rest_lf b = rw (behind end, byte, b, at_lf i (run (drop i text)) (run_digits (drop i text)) (drop (m.end + 1) text), is_number, ← end)

      pub rest_space : get_or text m.end 0 ≡ 32 → rest_at text i ≡ onto m.value (rest_at text (m.end + 1))
      unfolding rest_at
      rest_space b = rw (behind end, byte, b, at_space i (run (drop i text)) (run_digits (drop i text)) m.value (drop (m.end + 1) text) is_number, ← end)

      pub rest_other : (get_or text m.end 0 ≡ 10 → ⊥) → (get_or text m.end 0 ≡ 32 → ⊥) → rest_at text i ≡ unreadable
      unfolding rest_at
      rest_other f g =
          rw (behind end, byte)
          (at_other i (run (drop i text)) (run_digits (drop i text)) (get_or text m.end 0) (drop (m.end + 1) text) (rw byte at (stops end))
          (ne_eqb (get_or text m.end 0) 10 f) (ne_eqb (get_or text m.end 0) 32 g))

-- ---- a line and its rest
module _ (text : List ℕ) (at : ℕ) where
  pub line_over : length text ≤ at → line_at text at ≡ unreadable
  unfolding line_at ended
  line_over l = rw (drop_of_length-le text l)

  module _ (l : at < length text) where
    pub line_empty : get_or text at 0 ≡ 10 → line_at text at ≡ numbers [] (at + 1)
    unfolding line_at ended
    line_empty b = rw (drop-cons text at 0 l, b) (ap (numbers []) (omega arith))

    pub line_rest : (get_or text at 0 ≡ 10 → ⊥) → line_at text at ≡ rest_at text at
    unfolding line_at rest_at ended
    line_rest f = rw (drop-cons text at 0 l, ne_eqb (get_or text at 0) 10 f) (by (ended (drop (suc at) text)))
      where
        by : (o : Option (List ℕ)) → line_by at (option_map (get_or text at 0 ∷◌) o) ≡ rest_by at (option_map (get_or text at 0 ∷◌) o)
        by None = refl
        by (Some l) = refl

-- a line with a number is its rest
pub line_some : (text : List ℕ) (at : ℕ) {ns : List ℕ} {next : ℕ} → line_at text at ≡ numbers ns next → 0 < length ns → rest_at text at ≡ numbers ns next
unfolding line_at rest_at
line_some text at {ns} {next} e h = by (ended (drop at text)) e
  where
    by : (o : Option (List ℕ)) → line_by at o ≡ numbers ns next → rest_by at o ≡ numbers ns next
    by None f = f
    by (Some []) f = let z : ◌≡◌ {A = List ℕ} [] ns = cc in absurd (omega (arith, ap length z))
    by (Some (b ∷ l)) f = f
