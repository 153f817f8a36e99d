-- What a row call and the reader say in 01's values, and the enum's case that has them: two answers with the same values are the same answer.
--   row_one, wrote_row_is, got_row_is   `write_row`, `read_row`
--   next_one, strode, strode_is         the reader
-- Assumes nothing.
use mathlib.Core.Path.{◌≡◌, refl, sym, ap, ◌∙◌}
use mathlib.Core.List.{List}
use Prim.Native.Nat.{ℕ}
use lib.Dec.{eqb}
use lib.ListN.{length}
use Rattle.numbers.specs.Pick.{pick}
use Rattle.std.specs.Prelude.{Some, None, Ok, Err}
use Rattle.grammar.specs.Refusals.{refused}
use Rattle.grammar.proofs.Values.{by_refusal, refused_back}
use Rattle.rows.specs.Row.{Outcome, done, refused_at, RowAnswer, row_answer}
use Rattle.rows.specs.WriteRow.{writes_row, write_row_says, WroteRow}
use Rattle.rows.specs.ReadRow.{reads_row, read_row_says, GotRow}
use Rattle.rows.specs.Reader.{Reply, hands, at_end, next_of, stride_of, NextAnswer, next_answer, next_says, Strode}
use Rattle.rows.specs.declared.reader.Stride.{Stride}

-- ---- row calls
row_with : RowAnswer → Outcome
row_with a = by_refusal a.refusal (done a.items a.cells) (λ r. refused_at r a.node a.item)

row_back : (x : Outcome) → row_with (row_answer x) ≡ x
unfolding row_answer row_with
row_back (Ok d) = refl
row_back (Err e) = refused_back (done 0 0) (λ r. refused_at r e.node e.item) e.refusal

row_one : (x y : Outcome) → row_answer x ≡ row_answer y → x ≡ y
row_one x y e = sym (row_back x) ∙ ap row_with e ∙ row_back y

pub wrote_row_is : {t p : List ℕ} {i : ℕ} {ns old last : List ℕ} {r : Outcome} → WroteRow t p i ns old last r → r ≡ writes_row t p i (length old) ns
unfolding write_row_says
wrote_row_is {t} {p} {i} {ns} {old} {last} {r} h = row_one r (writes_row t p i (length old) ns) h.says

pub got_row_is : {t p : List ℕ} {i : ℕ} {cs old last : List ℕ} {r : Outcome} → GotRow t p i cs old last r → r ≡ reads_row t p i (length old) cs
unfolding read_row_says
got_row_is {t} {p} {i} {cs} {old} {last} {r} h = row_one r (reads_row t p i (length old) cs) h.says

-- ---- the reader
next_with : NextAnswer → Reply
next_with a = by_refusal a.refusal (pick (eqb a.items 0) at_end (hands a.number a.cells)) (λ r. refused r a.node)

next_back : (x : Reply) → next_with (next_answer x) ≡ x
unfolding next_answer next_with
next_back (Ok (Some n)) = refl
next_back (Ok None) = refl
next_back (Err e) = refused_back at_end (λ r. refused r e.node) e.refusal

pub next_one : (x y : Reply) → next_answer x ≡ next_answer y → x ≡ y
next_one x y e = sym (next_back x) ∙ ap next_with e ∙ next_back y

module _ (t p : List ℕ) (i : ℕ) (row : List ℕ) (at : ℕ) where
  pub strode : {s : Stride} → s ≡ stride_of t p i row at → Strode t p i row at s.answer s.at
  unfolding next_says
  strode e = record { says = ap (λ (s : Stride). next_answer s.answer) e; goes = ap (λ (s : Stride). s.at) e }

  pub strode_is : {n : Reply} {to : ℕ} → Strode t p i row at n to → ◌≡◌ {A = Stride} (record { answer = n; at = to }) (stride_of t p i row at)
  unfolding next_says
  strode_is {n} {to} h = rw (next_one n (next_of t p i row at) h.says, h.goes)
