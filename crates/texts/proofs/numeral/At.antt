-- The number at a place, by the tests that the code makes on its run of digits.
--   at_past_end             a place behind the text
--   at_none                 no digit
--   at_digits               the digits from a place on are their own run
--   at_leading              '0' before other digits
--   at_word, at_past        any other run: its value decides
-- Assumes nothing.
use mathlib.Core.Path.{◌≡◌, refl, sym, ap, ◌∙◌}
use mathlib.Core.Bool.{true}
use mathlib.Core.List.{List, [], ◌∷◌, ◌++◌}
use Prim.Native.Nat.{ℕ, ◌+◌, ◌-◌, ◌^◌, ◌<◌}
use native.Mathlib.Omega.{arith}
use lib.ListN.{length, get_or, take, drop, length-drop, drop_of_length-le}
use lib.Seq.{take_all}
use Rattle.std.specs.Prelude.{slice_range}
use Rattle.std.specs.Char.{is_ascii_digit}
use Rattle.std.specs.List.{take_while}
use borrow.Author.Tests.{lt-ltb, le-ltb, ne_eqb}
use Rattle.std.specs.Prelude.{Option, Some, None}
use Rattle.texts.specs.Numeral.{run, value, well_formed, numeral, numeral_at, worded}
use Rattle.texts.proofs.numeral.Runs.{run_is, run_front, run_again}
use Rattle.texts.proofs.numeral.Digits.{run_split}
use Rattle.texts.proofs.numeral.Values.{word_back, past_back}

-- ---- of a run
none : (ds : List ℕ) (at : ℕ) → length ds ≡ 0 → None ≡ numeral ds at
unfolding numeral well_formed
none [] at e = refl
none (d ∷ ds) at e = absurd (omega arith)

leads : (ds : List ℕ) (at : ℕ) → get_or ds 0 0 ≡ 48 → 1 < length ds → None ≡ numeral ds at
unfolding numeral well_formed
leads [] at z l = absurd (omega arith)
leads (d ∷ []) at z l = absurd (omega arith)
leads (d ∷ e ∷ ds) at z l = rw z refl

formed : (ds : List ℕ) → 0 < length ds → (1 < length ds → get_or ds 0 0 ≡ 48 → ⊥) → well_formed ds ≡ true
unfolding well_formed
formed [] h f = absurd (omega arith)
formed (d ∷ []) h f = refl
formed (d ∷ e ∷ ds) h f = rw (ne_eqb d 48 (f (omega arith)))

front : (ds rest : List ℕ) → 0 < length ds → get_or (ds ++ rest) 0 0 ≡ get_or ds 0 0
front [] rest h = absurd (omega arith)
front (d ∷ ds) rest h = refl

-- ---- at a place, by what stands from there on and how many digits it starts with
pub at_past_end : (text : List ℕ) (at : ℕ) → length text < at → None ≡ numeral_at text at
unfolding run
at_past_end text at l = rw (drop_of_length-le text {i = at} (omega arith)) (none [] at refl)

module _ (text : List ℕ) (at : ℕ) {rest : List ℕ} (w : rest ≡ slice_range text at (length text)) {size : ℕ}
    (e : size ≡ length (take_while is_ascii_digit rest)) where
  digits_size : size ≡ length (run rest)
  digits_size = e ∙ ap length (run_is rest)

  here : numeral (run rest) at ≡ numeral_at text at
  here = ap (λ (bs : List ℕ). numeral (run bs) at) (w ∙ take_all (length text - at) (drop at text) (omega (arith, length-drop at text)))

  pub at_none : size ≡ 0 → None ≡ numeral_at text at
  at_none f = none (run rest) at (omega (arith, digits_size)) ∙ here

  digits : take size rest ≡ run rest
  digits = rw digits_size (run_front rest)

  pub at_digits : run (take size rest) ≡ take size rest
  at_digits = rw digits (run_again rest)

  first : 0 < size → get_or rest 0 0 ≡ get_or (run rest) 0 0
  first h = ap (λ (bs : List ℕ). get_or bs 0 0) (run_split rest) ∙ front (run rest) (drop (length (run rest)) rest) (omega (arith, digits_size))

  pub at_leading : get_or rest 0 0 ≡ 48 → 1 < size → None ≡ numeral_at text at
  at_leading z l = leads (run rest) at (sym (first (omega arith)) ∙ z) (omega (arith, digits_size)) ∙ here

  module _ (some : size ≡ 0 → ⊥) (alone : 1 < size → get_or rest 0 0 ≡ 48 → ⊥) {r : Option ℕ} (s : r ≡ worded (value (take size rest))) where
    is : r ≡ worded (value (run rest))
    is = s ∙ ap (λ (ds : List ℕ). worded (value ds)) digits

    well : well_formed (run rest) ≡ true
    well = formed (run rest) (omega (arith, digits_size)) (λ l z. alone (omega (arith, digits_size)) (first (omega (arith, digits_size)) ∙ z))

    word_run : {v : ℕ} → r ≡ Some v → Some (record { value = v; end = at + size }) ≡ numeral (run rest) at
    unfolding numeral
    word_run {v} t =
        let b = word_back (value (run rest)) v (sym is ∙ t) in
        rw (well, lt-ltb (value (run rest)) (2 ^ 64) b.1, b.0, ← digits_size) refl

    past_run : r ≡ None → None ≡ numeral (run rest) at
    unfolding numeral
    past_run t = rw (well, le-ltb (value (run rest)) (2 ^ 64) (past_back (value (run rest)) (sym is ∙ t))) refl

    pub at_word : {v : ℕ} → r ≡ Some v → Some (record { value = v; end = at + size }) ≡ numeral_at text at
    at_word t = word_run t ∙ here

    pub at_past : r ≡ None → None ≡ numeral_at text at
    at_past t = past_run t ∙ here
