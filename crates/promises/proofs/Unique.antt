-- "Any two outcomes allowed by one promise are proved equal": the answer and the last words of every lent slice, for every public call.
--   one_verdict, one_writing, one_reading         `check`, `write`, `read`
--   one_row_writing, one_row_reading              `write_row`, `read_row`
--   one_stride, one_next, one_reader              `read_at`, `Reader::next`, `Reader::new`
--   one_number                                    `number_of`
-- Assumes nothing.
use mathlib.Core.Path.{◌≡◌, sym, ap, ◌∙◌}
use mathlib.Core.List.{List}
use Prim.Native.Nat.{ℕ}
use Rattle.grammar.specs.Refusals.{Verdict}
use Rattle.cases.specs.Read.{Found}
use Rattle.cases.specs.Write.{Written}
use Rattle.rows.specs.Row.{Outcome}
use Rattle.rows.specs.Reader.{Reply}
use Rattle.grammar.specs.Verdict.{answer, check_says}
use Rattle.grammar.specs.Refusals.{number_of}
use Rattle.grammar.specs.declared.refusal.Refusal.{Refusal}
use Rattle.grammar.specs.Sizes.{rules_of}
use Rattle.walk.specs.Walk.{walk, cells, depth}
use Rattle.cases.specs.Write.{Wrote}
use Rattle.cases.specs.Write as Write
use Rattle.cases.specs.Read.{read_of, read_says}
use Rattle.rows.specs.Row.{leaves}
use Rattle.rows.specs.WriteRow.{row_of, WroteRow}
use Rattle.rows.specs.ReadRow.{gather, gotten, GotRow}
use Rattle.rows.specs.Reader.{Strode}
use Rattle.grammar.proofs.Values.{answer_one}
use Rattle.cases.proofs.Values.{found_one, wrote_is}
use Rattle.rows.proofs.Values.{wrote_row_is, got_row_is, next_one}
use lib.ListN.{length}

module _ (t p : List ℕ) where
  pub one_verdict : {v w : Verdict} → answer v ≡ check_says t p → answer w ≡ check_says t p → v ≡ w
  one_verdict {v} {w} e f = answer_one v w (e ∙ sym f)

module _ (t p : List ℕ) (i : ℕ) where
  pub one_writing : {n : ℕ} {old last last' : List ℕ} {r r' : Written} → Wrote t p i n old last r → Wrote t p i n old last' r' → (r ≡ r') × (last ≡ last')
  one_writing {n} {old} h k =
      let same = wrote_is h ∙ sym (wrote_is k) in
      (same, h.holds ∙ ap (λ (x : Written). Write.leaves x (cells (walk (rules_of t p) depth 0 i n)) old) same ∙ sym k.holds)

  pub one_reading : (cs : List ℕ) {r r' : Found} → read_of r ≡ read_says t p i cs → read_of r' ≡ read_says t p i cs → r ≡ r'
  one_reading cs {r} {r'} e f = found_one r r' (e ∙ sym f)

  pub one_row_writing : {ns old last last' : List ℕ} {r r' : Outcome} → WroteRow t p i ns old last r → WroteRow t p i ns old last' r'
      → (r ≡ r') × (last ≡ last')
  one_row_writing {ns} {old} h k =
      let same = wrote_row_is h ∙ sym (wrote_row_is k) in
      (same, h.holds ∙ ap (λ (x : Outcome). leaves x (row_of (rules_of t p) i ns) old) same ∙ sym k.holds)

  pub one_row_reading : {cs old last last' : List ℕ} {r r' : Outcome} → GotRow t p i cs old last r → GotRow t p i cs old last' r' → (r ≡ r') × (last ≡ last')
  one_row_reading {cs} {old} h k =
      let same = got_row_is h ∙ sym (got_row_is k) in
      (same, h.holds ∙ ap (λ (x : Outcome). leaves x (gotten (gather (rules_of t p) i (length old) cs)) old) same ∙ sym k.holds)

  pub one_stride : (row : List ℕ) (at : ℕ) {n n' : Reply} {to to' : ℕ} → Strode t p i row at n to → Strode t p i row at n' to' → (n ≡ n') × (to ≡ to')
  one_stride row at {n} {n'} h k = (next_one n n' (h.says ∙ sym k.says), h.goes ∙ sym k.goes)

  -- of a reader: its answer, its row and its place
  pub one_next : {A : Type 0} {row : A} (cells : List ℕ) (at : ℕ) {n n' : Reply} {to to' : ℕ} {x x' : A} → Strode t p i cells at n to × (x ≡ row)
      → Strode t p i cells at n' to' × (x' ≡ row) → (n ≡ n') × (to ≡ to') × (x ≡ x')
  one_next cells at h k = let (e, f) = one_stride cells at h.0 k.0 in (e, f, h.1 ∙ sym k.1)

-- a reader that is made: its row and its place
pub one_reader : {A : Type 0} {row : A} {at at' : ℕ} {x x' : A} → (x ≡ row) × (at ≡ 0) → (x' ≡ row) × (at' ≡ 0) → (x ≡ x') × (at ≡ at')
one_reader h k = (h.0 ∙ sym k.0, h.1 ∙ sym k.1)

pub one_number : (r : Refusal) {n n' : ℕ} → n ≡ number_of r → n' ≡ number_of r → n ≡ n'
one_number r e f = e ∙ sym f
