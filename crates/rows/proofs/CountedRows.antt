-- What is known by an answer, for every input.
--   row_size, row_fits, row_cells     a row that is done: its cells are counted, are no more than words were lent, and are those written
--   got_size, got_fits, got_numbers   a row that is read: the same of its numbers
--   next_moves                        an item of the reader: it has a cell, and ends within the row
-- Assumes nothing.
use mathlib.Core.Path.{◌≡◌, refl, sym, ap, ◌∙◌}
use mathlib.Core.List.{List, [], ◌∷◌}
use Prim.Native.Nat.{ℕ, ◌-◌, ◌≤◌, ◌<◌}
use native.Mathlib.Omega.{arith}
use lib.ListN.{length, take, drop, length-append, length-drop}
use Rattle.grammar.specs.Table.{nodes}
use Rattle.grammar.specs.Verdict.{verdict}
use Rattle.std.specs.Prelude.{Err}
use Rattle.grammar.specs.Refusals.{Verdict, accepted}
use Rattle.grammar.specs.Sizes.{rules_of}
use Rattle.checked.proofs.Copying.{counted}
use Rattle.cases.proofs.BothSides.{case_some}
use Rattle.checked.specs.Opening.{judged, opening}
use Rattle.checked.proofs.Opens.{judged_past, opened_means}
use Rattle.checked.specs.Item.{Front, number, refused, front}
use Rattle.rows.proofs.Outcomes.{hands_same}
use Rattle.rows.specs.Row.{Outcome, done, at_first, leaves}
use Rattle.rows.specs.WriteRow.{row_of, writes_row, WroteRow}
use Rattle.rows.specs.ReadRow.{gather, gotten, reads_row, GotRow}
use Rattle.rows.specs.Reader.{hands, handed, next, next_of}
use Rattle.rows.proofs.WrittenInTurn.{done_row}
use Rattle.rows.proofs.Cuts.{case_front}
use Rattle.rows.proofs.Gathering.{gathered_size}
use Rattle.rows.proofs.Values.{wrote_row_is, got_row_is}

-- ---- an answer that is done: the call has opened
judged_done : (v : Verdict) {r : Outcome} {m c : ℕ} → judged at_first v r ≡ done m c → r ≡ done m c
judged_done v e = (judged_past at_first v (λ x q. let z : ◌≡◌ {A = ℕ} 0 1 = cc in omega arith) e).1

module _ {t p : List ℕ} {i : ℕ} where
  module _ {ns old last : List ℕ} {r : Outcome} (h : WroteRow t p i ns old last r) {m c : ℕ} (e : r ≡ done m c) where
    written : (m ≡ length ns) × (c ≡ length (row_of (rules_of t p) i ns)) × (c ≤ length old)
    unfolding writes_row
    written = done_row (rules_of t p) i (length old) ns (judged_done (opening t p i) (sym (wrote_row_is h) ∙ e))

    pub row_size : c ≡ length (row_of (rules_of t p) i ns)
    row_size = written.1

    pub row_fits : c ≤ length old
    row_fits = written.2

    pub row_cells : take c last ≡ row_of (rules_of t p) i ns
    row_cells = counted (row_of (rules_of t p) i ns) old (h.holds ∙ ap (λ (w : Outcome). leaves w (row_of (rules_of t p) i ns) old) e) row_size row_fits

  module _ {cs old last : List ℕ} {r : Outcome} (h : GotRow t p i cs old last r) {m c : ℕ} (e : r ≡ done m c) where
    read : (m ≡ length (gotten (gather (rules_of t p) i (length old) cs))) × (m ≤ length old)
    unfolding reads_row
    read =
        gathered_size (rules_of t p) i (length old) cs (length cs) (judged_done (opening t p i) (sym (got_row_is h) ∙ e))

    pub got_size : m ≡ length (gotten (gather (rules_of t p) i (length old) cs))
    got_size = read.0

    pub got_fits : m ≤ length old
    got_fits = read.1

    pub got_numbers : take m last ≡ gotten (gather (rules_of t p) i (length old) cs)
    got_numbers =
        let ws = gotten (gather (rules_of t p) i (length old) cs) in
        counted ws old (h.holds ∙ ap (λ (w : Outcome). leaves w ws old) e) got_size got_fits

-- ---- the reader
module _ (t p : List ℕ) (i n k : ℕ) where
  abbrev Moves : List ℕ → Type 0
  Moves cs = (0 < length cs) × (0 < k) × (k ≤ length cs)

  item_moves : verdict t p ≡ accepted → i < nodes t → (cs : List ℕ) → next (rules_of t p) i cs ≡ hands n k → Moves cs
  unfolding next
  item_moves a l [] e = let z : ◌≡◌ {A = ℕ} 0 1 = cc in absurd (omega arith)
  item_moves a l (c ∷ cs) e = by (front (rules_of t p) i (c ∷ cs)) refl e
    where
      by : (f : Front) → front (rules_of t p) i (c ∷ cs) ≡ f → handed (length (c ∷ cs)) f ≡ hands n k → Moves (c ∷ cs)
      by (number m rest) u v =
          let s : length (c ∷ cs) - length rest ≡ k = (hands_same v).1 in
          let (ws, q, one, same) = case_front t p a i l u in
          let long = ap length same ∙ length-append ws rest in
          (omega arith, omega (arith, case_some t p a i l m ws q one), omega arith)
      by (refused r) u v = let z : ◌≡◌ {A = ℕ} 0 1 = cc in absurd (omega arith)

  module _ (row : List ℕ) (at : ℕ) where
    pub next_moves : next_of t p i row at ≡ hands n k → (at < length row) × (0 < k) × (k ≤ length row - at)
    unfolding next_of
    next_moves e =
        let (u, f) = judged_past Err (opening t p i) (λ r q. let z : ◌≡◌ {A = ℕ} 0 1 = cc in omega arith) e in
        let (a, l) = opened_means t p i u in
        let (x, y, z) = item_moves a l (drop at row) f in
        (omega (arith, length-drop at row), y, omega (arith, length-drop at row))
