-- Outcomes: two that are equal have equal parts.
--   done_same, refused_same   of a row call
--   hands_same                of the reader
--   found_ok, found_err       what was found at an item
-- Assumes nothing.
use mathlib.Core.Path.{◌≡◌, refl, sym, ap, ◌∙◌}
use Prim.Native.Nat.{ℕ}
use native.Mathlib.Omega.{arith}
use Rattle.std.specs.Prelude.{Result, Ok, Err}
use Rattle.grammar.specs.declared.refusal.Refusal.{Refusal}
use Rattle.rows.specs.Row.{done, refused_at, at_item}
use Rattle.rows.specs.Reader.{hands}
use Rattle.rows.specs.declared.answer.Row.{Row}
use Rattle.rows.specs.declared.answer.RowRefused.{RowRefused}
use Rattle.rows.specs.declared.reader.Next.{Next}

pub done_same : {m c m' c' : ℕ} → done m c ≡ done m' c' → (m ≡ m') × (c ≡ c')
done_same {m} {c} {m'} {c'} e =
    let s : ◌≡◌ {A = Row} (record { items = m; cells = c }) (record { items = m'; cells = c' }) = cc in
    (ap (λ (d : Row). d.items) s, ap (λ (d : Row). d.cells) s)

pub refused_same : {r r' : Refusal} {k i k' i' : ℕ} → refused_at r k i ≡ refused_at r' k' i' → (r ≡ r') × (i ≡ i')
refused_same {r} {r'} {k} {i} {k'} {i'} e =
    let s : ◌≡◌ {A = RowRefused} (record { refusal = r; node = k; item = i }) (record { refusal = r'; node = k'; item = i' }) = cc in
    (ap (λ (x : RowRefused). x.refusal) s, ap (λ (x : RowRefused). x.item) s)

pub hands_same : {n k n' k' : ℕ} → hands n k ≡ hands n' k' → (n ≡ n') × (k ≡ k')
hands_same {n} {k} {n'} {k'} e =
    let s : ◌≡◌ {A = Next} (record { number = n; cells = k }) (record { number = n'; cells = k' }) = cc in
    (ap (λ (x : Next). x.number) s, ap (λ (x : Next). x.cells) s)

-- what was found at an item
module _ {A : Type 0} where
  pub found_ok : (r : Result A Refusal) (item : ℕ) {s : Result A RowRefused} {x : A} → s ≡ at_item r item → s ≡ Ok x → r ≡ Ok x
  found_ok (Ok y) item {s} {x} a q = let g : ◌≡◌ {A = Result A RowRefused} (Ok y) (Ok x) = sym a ∙ q in let h : y ≡ x = cc in ap Ok h
  found_ok (Err r) item {s} {x} a q = let g : ◌≡◌ {A = Result A RowRefused} s (Ok x) = q in let z : ◌≡◌ {A = ℕ} 0 1 = cc in absurd (omega arith)

  pub found_err : (r : Result A Refusal) (item : ℕ) {s : Result A RowRefused} {e : RowRefused} → s ≡ at_item r item → s ≡ Err e
      → (x : Refusal) × (r ≡ Err x) × (e ≡ record { refusal = x; node = 0; item = item })
  found_err (Ok y) item {s} {e} a q = let z : ◌≡◌ {A = ℕ} 0 1 = cc in absurd (omega arith)
  found_err (Err x) item {s} {e} a q = (x, refl, cc)
