-- What `write-row` and `read-row` have printed, and left in the buffer: its other words are as they were.
--   row_done, row_refused    by the answer
--   wrote                    what `write_row` answers, by the length of the buffer that was lent
--   got, got_holds, got_words    the same of `read_row`, and the numbers that it stored
-- Assumes nothing.
use mathlib.Core.Path.{◌≡◌, ap, ◌∙◌}
use mathlib.Core.List.{List, ◌++◌}
use Prim.Native.Nat.{ℕ}
use lib.ListN.{length, take}
use Rattle.grammar.specs.Sizes.{rules_of}
use Rattle.std.specs.Prelude.{Ok, Err}
use Rattle.rows.specs.Row.{Outcome, leaves}
use Rattle.rows.specs.WriteRow.{writes_row, WroteRow}
use Rattle.rows.specs.ReadRow.{gather, gotten, reads_row, GotRow}
use Rattle.rows.specs.declared.answer.Row.{Row}
use Rattle.rows.specs.declared.answer.RowRefused.{RowRefused}
use Rattle.rows.proofs.CountedRows.{got_size, got_numbers}
use Rattle.rows.proofs.Values.{wrote_row_is, got_row_is}
use Rattle.texts.specs.declared.page.Page.{Page}
use Rattle.texts.specs.Page.{Puts}
use Rattle.texts.proofs.page.Putting.{told}
use Rattle.asking.specs.Buffer.{start_words}
use Rattle.asking.specs.Texts.{refused_item, items_text, cells_text, end_text}
use Rattle.asking.proofs.Buffers.{filled_length, end_done, end_left}
use Rattle.row_calls.specs.Row.{row_text, PrintsRow}

-- ---- by the answer, and by the words that the call wrote and those that it left
module _ (old words : List ℕ) {filled last : List ℕ} {r says : Outcome} (start : filled ≡ start_words 0 (length old)) (holds : last ≡ leaves r words filled)
    (is : r ≡ says) {page page' : Page} where
  prints : Puts (row_text words r) page page' → PrintsRow words says old last page page'
  prints g = record { puts = rw (← is) g; buffer = rw (← is, ← start) holds }

  pub row_done : {d : Row} {size : ℕ} → r ≡ Ok d → size ≡ length words → take size last ≡ words
      → Puts (items_text d.items ++ (cells_text d.cells (take size last) ++ end_text last size)) page page'
      → PrintsRow words says old last page page'
  unfolding row_text
  row_done e n same g = prints (told (rw (e, same, end_done (length old) words filled n (holds ∙ ap (λ (x : Outcome). leaves x words filled) e) start)) g)

  pub row_refused : {x : RowRefused} → r ≡ Err x → Puts (refused_item x.refusal x.node x.item ++ end_text last 0) page page'
      → PrintsRow words says old last page page'
  unfolding row_text
  row_refused e g = prints (told (rw (e, end_left (length old) (holds ∙ ap (λ (x : Outcome). leaves x words filled) e) start)) g)

-- ---- by the length of the buffer that was lent
module _ {t p : List ℕ} {i : ℕ} {ws : List ℕ} (old : List ℕ) {filled last : List ℕ} {r : Outcome} (start : filled ≡ start_words 0 (length old)) where
  pub wrote : WroteRow t p i ws filled last r → r ≡ writes_row t p i (length old) ws
  wrote k = wrote_row_is k ∙ ap (λ (m : ℕ). writes_row t p i m ws) (filled_length old start)

  module _ (k : GotRow t p i ws filled last r) where
    pub got : r ≡ reads_row t p i (length old) ws
    got = got_row_is k ∙ ap (λ (m : ℕ). reads_row t p i m ws) (filled_length old start)

    pub got_holds : last ≡ leaves r (gotten (gather (rules_of t p) i (length old) ws)) filled
    got_holds = rw (filled_length old start) at k.holds

    pub got_words : {d : Row} → r ≡ Ok d
        → (d.items ≡ length (gotten (gather (rules_of t p) i (length old) ws))) × (take d.items last ≡ gotten (gather (rules_of t p) i (length old) ws))
    got_words e = (rw (filled_length old start) at (got_size k e), rw (filled_length old start) at (got_numbers k e))
