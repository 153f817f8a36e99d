-- Demand 3, for one accepted grammar and one start: cases of any list of numbers, written one after another with no marks between, read back as exactly
-- that list; no other list writes the same row; no case is the beginning of a different case.
-- The theorems are about what `write_row`, `read_row` and the reader promise on every input (`WroteRow`, `GotRow`, `stride_of`). Each proof is a citation.
--   row_written            numbers that have cases within the limits, in a buffer that is long enough: `write_row` gives the cases, one after another
--   written_then_read      what `write_row` gives, `read_row` reads back as exactly that list
--   row_there_and_back     both at once
--   read_then_written      what `read_row` reads, `write_row` gives back
--   one_list               no other list of numbers writes the same row
--   only_cuts, one_cut     a row that is read is cut into cases, and a row can be cut in one way only
--   case_handed            wherever a case stands, the reader gives its number and stops right after it
--   reader_done, reader_refused   the reader, asked again and again, gives what row reading gives, item by item, place by place
-- That no case is the beginning of a different case is `no_beginning` of `Rattle.cases.proofs.BothSides`.
-- Assumes nothing.
use mathlib.Core.Path.{◌≡◌, sym, ap, ◌∙◌}
use mathlib.Core.List.{List, ◌++◌}
use Prim.Native.Nat.{ℕ, suc, ◌+◌, ◌≤◌, ◌<◌}
use native.Mathlib.Omega.{arith}
use lib.ListN.{length, take}
use Rattle.grammar.specs.Refusals.{accepted, refused}
use Rattle.rows.specs.Row.{Outcome, done, refused_at}
use Rattle.rows.specs.Reader.{hands, at_end}
use Rattle.grammar.specs.Table.{nodes}
use Rattle.grammar.specs.Verdict.{verdict}
use Rattle.grammar.specs.declared.refusal.Refusal.{Refusal}
use Rattle.grammar.specs.Rule.{Rule}
use Rattle.grammar.specs.Sizes.{rules_of}
use Rattle.walk.specs.Room.{Case}
use Rattle.checked.specs.Fits.{Asked}
use Rattle.rows.specs.WriteRow.{WroteRow}
use Rattle.rows.specs.ReadRow.{GotRow}
use Rattle.rows.specs.Reader.{stride_of}
use Rattle.rows.specs.Cut.{Cut, joined, hand_out, asks}
use Rattle.rows.proofs.Cuts.{cut_same, stride_case}
use Rattle.rows.proofs.Answers.{wrote_cut, cut_wrote, got_cut, cut_got, got_stopped, said_by, asks_end, asks_refused}

module _ (t p : List ℕ) (a : verdict t p ≡ accepted) (i : ℕ) (l : i < nodes t) where
  abbrev g : ℕ → Rule
  g = rules_of t p

  -- ---- 1. exactly that list
  pub row_written : {ns : List ℕ} {css : List (List ℕ)} → Cut g i ns css → {old last : List ℕ} {w : Outcome} → length (joined css) ≤ length old
      → WroteRow t p i ns old last w → (w ≡ done (length ns) (length (joined css))) × (take (length (joined css)) last ≡ joined css)
  row_written cut f h = wrote_cut t p a i l cut f h

  pub written_then_read : {ns old last old' last' : List ℕ} {m c : ℕ} {r : Outcome} → WroteRow t p i ns old last (done m c)
      → GotRow t p i (take c last) old' last' r → length ns ≤ length old' → (r ≡ done m c) × (take m last' ≡ ns)
  written_then_read h k f =
      let (css, cut, many, used, same) = cut_wrote t p a i l h in
      rw (many, used) (got_cut t p a i l cut f (rw same at k))

  pub row_there_and_back : {ns : List ℕ} {css : List (List ℕ)} → Cut g i ns css → {old last old' last' : List ℕ} {w r : Outcome}
      → length (joined css) ≤ length old → length ns ≤ length old' → WroteRow t p i ns old last w
      → GotRow t p i (take (length (joined css)) last) old' last' r
      → (w ≡ done (length ns) (length (joined css))) × (take (length (joined css)) last ≡ joined css)
      × (r ≡ done (length ns) (length (joined css))) × (take (length ns) last' ≡ ns)
  row_there_and_back cut f f' h k =
      let (wrote, cells) = row_written cut f h in
      let (got, numbers) = got_cut t p a i l cut f' (rw cells at k) in
      (wrote, cells, got, numbers)

  pub read_then_written : {cs old last old' last' : List ℕ} {m c : ℕ} {w : Outcome} → GotRow t p i cs old last (done m c)
      → WroteRow t p i (take m last) old' last' w → length cs ≤ length old' → (w ≡ done m c) × (take c last' ≡ cs)
  read_then_written h k f =
      let (css, cut, same, many, used) = cut_got t p a i l h in
      said_by _ (wrote_cut t p a i l cut (omega (arith, ap length same)) k) many (ap length same ∙ used) same

  -- ---- 2. no other list
  pub one_list : {ns ms old last old' last' : List ℕ} {m c m' c' : ℕ} → WroteRow t p i ns old last (done m c) → WroteRow t p i ms old' last' (done m' c')
      → take c last ≡ take c' last' → ns ≡ ms
  one_list h h' e =
      let (css, cut, many, used, same) = cut_wrote t p a i l h in
      let (dss, cut', many', used', same') = cut_wrote t p a i l h' in
      (cut_same t p a i l cut cut' (sym same ∙ e ∙ same')).0

  -- ---- 3. one cut
  pub only_cuts : {cs old last : List ℕ} {m c : ℕ} → GotRow t p i cs old last (done m c)
      → (css : List (List ℕ)) × Cut g i (take m last) css × (joined css ≡ cs)
  only_cuts h = let (css, cut, same, many, used) = cut_got t p a i l h in (css, cut, same)

  pub one_cut : {ns ms : List ℕ} {css dss : List (List ℕ)} → Cut g i ns css → Cut g i ms dss → joined css ≡ joined dss → (ns ≡ ms) × (css ≡ dss)
  one_cut cut cut' e = cut_same t p a i l cut cut' e

  -- ---- the reader
  -- wherever a case stands in a row, whatever follows it
  pub case_handed : {n : ℕ} {cs : List ℕ} → Asked (g i).size n → Case g i n cs → (before rest : List ℕ)
      → stride_of t p i (before ++ (cs ++ rest)) (length before) ≡ record { answer = hands n (length cs); at = length before + length cs }
  case_handed q c before rest = stride_case t p a i l q c before rest

  pub reader_done : {row old last : List ℕ} {m c : ℕ} → GotRow t p i row old last (done m c)
      → (css : List (List ℕ)) × (joined css ≡ row) × (asks (stride_of t p i row) (suc m) 0 ≡ hand_out 0 (take m last) css at_end)
  reader_done h = let (css, cut, same, many, used) = cut_got t p a i l h in (css, same, asks_end t p a i l cut _ (sym many) same)

  pub reader_refused : {row old last : List ℕ} {r : Refusal} {item : ℕ} → GotRow t p i row old last (refused_at r 0 item) → length row ≤ length old
      → (ns : List ℕ) × (css : List (List ℕ)) × (rest : List ℕ) × Cut g i ns css × (row ≡ joined css ++ rest)
      × (asks (stride_of t p i row) (suc item) 0 ≡ hand_out 0 ns css (refused r 0))
  reader_refused h f =
      let (ns, css, rest, cut, whole, many, last) = got_stopped t p a i l h f in
      (ns, css, rest, cut, whole, asks_refused t p a i l cut _ many rest whole last)
