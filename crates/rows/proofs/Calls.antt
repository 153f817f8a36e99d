-- What the code of the row calls has found, in the words of their promises.
--   row_refused, got_refused, next_refused   the table or the start is refused
--   items_written, row_done   `write_row`
--   got_items                                `read_row`
--   next_is, next_end, next_item, next_not   the reader
-- Assumes nothing.
use mathlib.Core.Path.{◌≡◌, refl, sym, ap, ◌∙◌}
use mathlib.Core.List.{List, [], ◌∷◌}
use Prim.Native.Nat.{ℕ, ◌-◌, ◌≤◌, ◌<◌}
use native.Mathlib.Nat.{not-suc-le-zero}
use native.Mathlib.Omega.{arith}
use lib.ListN.{length, drop, length-drop, drop_of_length-le}
use Rattle.grammar.specs.declared.entry.Entry.{Entry}
use Rattle.grammar.specs.declared.refusal.Refusal.{Refusal}
use Rattle.grammar.specs.declared.refusal.Refused.{Refused}
use Rattle.std.specs.Prelude.{Result, Ok, Err}
use Rattle.grammar.specs.Refusals.{refused}
use Rattle.grammar.specs.Rule.{Rule}
use Rattle.checked.specs.Opening.{opening}
use Rattle.checked.specs.Opened.{Place, rules, Stands}
use Rattle.checked.specs.Item.{front, Stood}
use Rattle.checked.specs.declared.item.Item.{Item}
use Rattle.checked.proofs.Standing.{stood}
use Rattle.rows.specs.Row.{Outcome, at_first, row_answer}
use Rattle.rows.specs.WriteRow.{in_turn, RowOver, WroteItems, writes_row, WroteRow, write_row_says}
use Rattle.rows.specs.ReadRow.{reads_row, GotItems, GotRow, read_row_says}
use Rattle.rows.specs.Reader.{Reply, hands, at_end, handed, next, next_of}
use Rattle.rows.specs.declared.answer.Row.{Row}

-- ---- the table or the start is refused
module _ (t p : List ℕ) (i : ℕ) {e : Refused} (h : opening t p i ≡ Err e) where
  pub row_refused : {ns old last : List ℕ} → last ≡ old → WroteRow t p i ns old last (at_first e)
  unfolding writes_row write_row_says
  row_refused g = record { says = rw h; holds = g }

  pub got_refused : {cs old last : List ℕ} → last ≡ old → GotRow t p i cs old last (at_first e)
  unfolding reads_row read_row_says
  got_refused g = record { says = rw h; holds = g }

  pub next_refused : (row : List ℕ) (at : ℕ) → Err e ≡ next_of t p i row at
  unfolding next_of
  next_refused row at = rw h

-- ---- the items of a row that is written: the second pass answers as the first
module _ {g : ℕ → Rule} {i : ℕ} (ns old : List ℕ) {r : Outcome} (e : r ≡ in_turn g i (length old) ns) where
  pub items_written : {d : Row} → r ≡ Ok d → {last : List ℕ} {x : Outcome} → RowOver g i ns old last x → WroteItems g i ns old last x
  items_written {d} q {x = x} f =
      let s : x ≡ Ok d = f.is ∙ sym e ∙ q in
      rw s (record { is = sym q ∙ e; holds = f.holds d.items d.cells s })

module _ {t p : List ℕ} {i : ℕ} {o : Place} (h : Stands t p i o) where
  -- ---- write_row
  pub row_done : {ns old last : List ℕ} {r : Outcome} → WroteItems (rules o) o.start ns old last r → WroteRow t p i ns old last r
  unfolding writes_row write_row_says
  row_done w = record { says = ap row_answer (rw (h.accepts, ← h.same, ← h.start) w.is); holds = rw (← h.same, ← h.start) w.holds }

  -- ---- read_row
  pub got_items : {cs old last : List ℕ} {r : Outcome} → GotItems (rules o) o.start cs old last r → GotRow t p i cs old last r
  unfolding reads_row read_row_says
  got_items w = record { says = ap row_answer (rw (h.accepts, ← h.same, ← h.start) w.is); holds = rw (← h.same, ← h.start) w.holds }

  -- ---- the reader
  pub next_is : (row : List ℕ) (at : ℕ) {r : Reply} → r ≡ next (rules o) o.start (drop at row) → r ≡ next_of t p i row at
  unfolding next_of
  next_is row at e = rw (h.accepts, ← h.same, ← h.start) e

-- ---- the reader
pub next_some : (g : ℕ → Rule) (i : ℕ) (cs : List ℕ) → 0 < length cs → next g i cs ≡ handed (length cs) (front g i cs)
unfolding next
next_some g i [] l = absurd (not-suc-le-zero l)
next_some g i (c ∷ cs) l = refl

module _ (g : ℕ → Rule) (i : ℕ) (row : List ℕ) (at : ℕ) where
  pub next_end : length row ≤ at → at_end ≡ next g i (drop at row)
  unfolding next
  next_end k = rw (drop_of_length-le row {i = at} k)

  module _ (k : at < length row) {r : Result Item Refusal} (w : Stood (front g i (drop at row)) row at r) where
    is_handed : next g i (drop at row) ≡ handed (length (drop at row)) (front g i (drop at row))
    is_handed = next_some g i (drop at row) (omega (arith, length-drop at row))

    pub next_item : {d : Item} → r ≡ Ok d → hands d.number (d.next - at) ≡ next g i (drop at row)
    next_item {d} q =
        let (e, lo, hi) = stood w q in
        let s : length (drop at row) - length (drop d.next row) ≡ d.next - at = omega (arith, length-drop at row, length-drop d.next row) in
        sym (is_handed ∙ rw (e, s))

    pub next_not : {x : Refusal} → r ≡ Err x → refused x 0 ≡ next g i (drop at row)
    next_not q = sym (is_handed ∙ rw (stood w q))
