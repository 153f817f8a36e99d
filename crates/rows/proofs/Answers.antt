-- Towards the theorems of `OneList`: what the promises say of cut rows, for an accepted table and a start in it.
--   wrote_cut, cut_wrote    a cut row that fits is written; a row that is written is cut
--   got_cut, cut_got        a cut row is read where its numbers have room; a row that is read is cut
--   got_stopped             a row that is refused, where its numbers have room
--   asks_end, asks_refused  what the reader says of them
-- Assumes nothing.
use mathlib.Core.Path.{◌≡◌, refl, sym, ap, subst, ◌∙◌}
use mathlib.Core.List.{List, [], ◌++◌, append-nil}
use Prim.Native.Nat.{ℕ, suc, ◌≤◌, ◌<◌}
use lib.ListN.{length, take}
use Rattle.grammar.specs.Table.{nodes}
use Rattle.grammar.specs.Verdict.{verdict}
use Rattle.grammar.specs.declared.refusal.Refusal.{Refusal}
use Rattle.grammar.specs.Refusals.{accepted, refused}
use Rattle.grammar.specs.Rule.{Rule}
use Rattle.grammar.specs.Sizes.{rules_of}
use Rattle.checked.proofs.Opens.{opens}
use Rattle.rows.specs.WriteRow.{in_turn, writes_row, WroteRow}
use Rattle.rows.specs.ReadRow.{gather, answered, gotten, reads_row, GotRow}
use Rattle.rows.specs.Reader.{at_end, next, stride_of}
use Rattle.rows.specs.Cut.{Cut, joined, hand_out, asks}
use Rattle.rows.specs.Row.{Outcome, done, refused_at}
use Rattle.rows.proofs.WrittenInTurn.{done_row}
use Rattle.rows.proofs.Cuts.{turns_cut, cut_turns, gather_cut, cut_gather, cut_stopped, asks_cut}
use Rattle.rows.proofs.Gathering.{answered_all, answered_stopped}
use Rattle.rows.proofs.CountedRows.{row_size, row_cells, got_numbers}
use Rattle.rows.proofs.Values.{wrote_row_is, got_row_is}

-- an answer and its words, said by equals
pub said_by : {w : Outcome} (last : List ℕ) {xs ys : List ℕ} {m m' c c' : ℕ} → (w ≡ done m' c') × (take c' last ≡ xs) → m' ≡ m → c' ≡ c → xs ≡ ys
    → (w ≡ done m c) × (take c last ≡ ys)
said_by last h e f s = (h.0 ∙ cc (e, f), ap (λ (k : ℕ). take k last) (sym f) ∙ h.1 ∙ s)

module _ (t p : List ℕ) (a : verdict t p ≡ accepted) (i : ℕ) (l : i < nodes t) where
  abbrev g : ℕ → Rule
  g = rules_of t p

  writes_row_is : (room : ℕ) (ns : List ℕ) → writes_row t p i room ns ≡ in_turn g i room ns
  unfolding writes_row
  writes_row_is room ns = rw (opens t p a i l)

  reads_row_is : (room : ℕ) (cs : List ℕ) → reads_row t p i room cs ≡ answered (length cs) (gather g i room cs)
  unfolding reads_row
  reads_row_is room cs = rw (opens t p a i l)

  -- ---- writing
  pub wrote_cut : {ns : List ℕ} {css : List (List ℕ)} → Cut g i ns css → {old last : List ℕ} {w : Outcome} → length (joined css) ≤ length old
      → WroteRow t p i ns old last w → (w ≡ done (length ns) (length (joined css))) × (take (length (joined css)) last ≡ joined css)
  wrote_cut {ns} {css} cut {old} {last} {w} f h =
      let (e, same) = turns_cut t p a i l (length old) cut f in
      let is : w ≡ done (length ns) (length (joined css)) = wrote_row_is h ∙ writes_row_is (length old) ns ∙ e in
      (is, row_cells h is ∙ same)

  pub cut_wrote : {ns old last : List ℕ} {m c : ℕ} → WroteRow t p i ns old last (done m c)
      → (css : List (List ℕ)) × Cut g i ns css × (m ≡ length ns) × (c ≡ length (joined css)) × (take c last ≡ joined css)
  cut_wrote {ns} {old} {last} {m} {c} h =
      let e : in_turn g i (length old) ns ≡ done m c = sym (wrote_row_is h ∙ writes_row_is (length old) ns) in
      let (css, cut, same) = cut_turns t p a i l (length old) ns e in
      (css, cut, (done_row g i (length old) ns e).0, row_size h refl ∙ ap length (sym same), row_cells h refl ∙ sym same)

  -- ---- reading
  pub got_cut : {ns : List ℕ} {css : List (List ℕ)} → Cut g i ns css → {old last : List ℕ} {r : Outcome} → length ns ≤ length old
      → GotRow t p i (joined css) old last r → (r ≡ done (length ns) (length (joined css))) × (take (length ns) last ≡ ns)
  got_cut {ns} {css} cut {old} {last} {r} f h =
      let e = gather_cut t p a i l (length old) cut f in
      let is : r ≡ done (length ns) (length (joined css)) = got_row_is h ∙ reads_row_is (length old) (joined css) ∙ ap (answered (length (joined css))) e in
      (is, got_numbers h is ∙ ap gotten e)

  pub cut_got : {cs old last : List ℕ} {m c : ℕ} → GotRow t p i cs old last (done m c)
      → (css : List (List ℕ)) × Cut g i (take m last) css × (joined css ≡ cs) × (length (take m last) ≡ m) × (length cs ≡ c)
  cut_got {cs} {old} {last} {m} {c} h =
      let (ns, e, many, used) = answered_all (length cs) (gather g i (length old) cs) (sym (got_row_is h ∙ reads_row_is (length old) cs)) in
      let (css, cut, same) = cut_gather t p a i l (length old) cs ns e in
      let these : take m last ≡ ns = got_numbers h refl ∙ ap gotten e in
      (css, subst (λ (xs : List ℕ). Cut g i xs css) (sym these) cut, same, ap length these ∙ many, used)

  pub got_stopped : {row old last : List ℕ} {r : Refusal} {item : ℕ} → GotRow t p i row old last (refused_at r 0 item) → length row ≤ length old
      → (ns : List ℕ) × (css : List (List ℕ)) × (rest : List ℕ) × Cut g i ns css × (row ≡ joined css ++ rest) × (item ≡ length ns) ×
      (next g i rest ≡ refused r 0)
  got_stopped {row} {old} {last} {r} {item} h f =
      cut_stopped t p a i l (length old) row item f (answered_stopped (length row) (gather g i (length old) row) (sym (got_row_is h ∙ reads_row_is
      (length old) row)))

  -- ---- the reader
  module _ {ns : List ℕ} {css : List (List ℕ)} (cut : Cut g i ns css) (row : List ℕ) {m : ℕ} (many : m ≡ length ns) where
    pub asks_end : joined css ≡ row → asks (stride_of t p i row) (suc m) 0 ≡ hand_out 0 ns css at_end
    unfolding next
    asks_end e = rw many (asks_cut t p a i l row [] 0 at_end refl (λ to. refl) cut (sym e ∙ sym (append-nil (joined css))))

    pub asks_refused : (rest : List ℕ) {r : Refusal} → row ≡ joined css ++ rest → next g i rest ≡ refused r 0
        → asks (stride_of t p i row) (suc m) 0 ≡ hand_out 0 ns css (refused r 0)
    asks_refused rest {r} e f = rw many (asks_cut t p a i l row rest 0 (refused r 0) f (λ to. refl) cut e)
