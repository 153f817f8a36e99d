-- What Ashetdune promises, in one place: the three demands for the public calls, that each promise allows one outcome, and the worked cases.
-- `check` says `check_says`, `read` says `read_says`; `write` promises `Wrote`, `write_row` and `read_row` promise `WroteRow` and `GotRow`, the reader promises
-- `Strode`: each in 01's numbers. None of them has a `requires`. Every statement is in full, every proof one citation.
-- Assumes nothing.
use mathlib.Core.Path.{◌≡◌}
use mathlib.Core.List.{List, [], ◌∷◌, ◌++◌, map}
use Prim.Native.Nat.{ℕ, suc, ◌+◌, ◌^◌, ◌≤◌, ◌<◌}
use lib.ListN.{length, take}
use Rattle.std.specs.Prelude.{Ok}
use Rattle.grammar.specs.Refusals.{Verdict, accepted, refused}
use Rattle.cases.specs.Read.{Found}
use Rattle.cases.specs.Write.{Written}
use Rattle.rows.specs.Row.{Outcome, done, refused_at}
use Rattle.rows.specs.Reader.{Reply, hands, at_end}
use Rattle.numbers.specs.Size.{Below, finite}
use Rattle.grammar.specs.Table.{nodes}
use Rattle.grammar.specs.Refusals.{number_of}
use Rattle.grammar.specs.Sizes.{size_at, sizes}
use Rattle.grammar.specs.Verdict.{verdict, answer, check_says}
use Rattle.grammar.specs.declared.refusal.Refusal.{Refusal}
use Rattle.grammar.specs.declared.refusal.Refusal.TheVariants.{NotACase}
use Rattle.grammar.specs.Sizes.{rules_of}
use Rattle.walk.specs.Walk.{cell, walk}
use Rattle.walk.specs.Room.{Case}
use Rattle.checked.specs.Fits.{Asked}
use Rattle.cases.specs.Write.{Wrote}
use Rattle.cases.specs.Read.{reads, read_of, read_says}
use Rattle.cases.proofs.BothSides as Both-sides
use Rattle.cases.proofs.Ends as Ends
use Rattle.cases.proofs.Meaning as Meaning
use Rattle.promises.proofs.Worked as Tables
use Rattle.promises.proofs.WorkedCases as Cases
use Rattle.rows.specs.WriteRow.{WroteRow}
use Rattle.rows.specs.ReadRow.{GotRow}
use Rattle.rows.specs.Reader.{stride_of, Strode}
use Rattle.rows.specs.Cut.{Cut, joined, hand_out, asks}
use Rattle.promises.proofs.OneList as One-list
use Rattle.promises.proofs.Refused.{Because}
use Rattle.promises.proofs.Refused as Reasons
use Rattle.promises.proofs.Unique as Unique
use Rattle.promises.proofs.WorkedRows as Rows
use Rattle.promises.proofs.WriteSides as Sides

-- ---- Demand 1. Every table, number and row of cells gets an answer, and a refusal changes no lent cell: one outcome for every input, and a refusal's
-- buffer is as it was.
-- A table that breaks a rule is refused by that rule's number and the node that broke it: a verdict is what it is for one of five reasons, and for no other.
verdict_exactly : (t p : List ℕ) (v : Verdict) → (verdict t p ≡ v → Because t p v) × (Because t p v → verdict t p ≡ v)
verdict_exactly = Reasons.verdict_exactly

one_verdict : (t p : List ℕ) {v w : Verdict} → answer v ≡ check_says t p → answer w ≡ check_says t p → v ≡ w
one_verdict t p e f = Unique.one_verdict t p e f

one_reader : {A : Type 0} {row : A} {at at' : ℕ} {x x' : A} → (x ≡ row) × (at ≡ 0) → (x' ≡ row) × (at' ≡ 0) → (x ≡ x') × (at ≡ at')
one_reader h k = Unique.one_reader h k

one_number : (r : Refusal) {n n' : ℕ} → n ≡ number_of r → n' ≡ number_of r → n ≡ n'
one_number r e f = Unique.one_number r e f

one_reading : (t p : List ℕ) (i : ℕ) (cs : List ℕ) {r r' : Found} → read_of r ≡ read_says t p i cs → read_of r' ≡ read_says t p i cs → r ≡ r'
one_reading t p i cs e f = Unique.one_reading t p i cs e f

module _ {t p : List ℕ} {i : ℕ} where
  one_stride : {row : List ℕ} {at : ℕ} {n n' : Reply} {to to' : ℕ} → Strode t p i row at n to → Strode t p i row at n' to' → (n ≡ n') × (to ≡ to')
  one_stride {row} {at} h k = Unique.one_stride t p i row at h k

  one_next : {A : Type 0} {row : A} {cells : List ℕ} {at : ℕ} {n n' : Reply} {to to' : ℕ} {x x' : A} → Strode t p i cells at n to × (x ≡ row)
      → Strode t p i cells at n' to' × (x' ≡ row) → (n ≡ n') × (to ≡ to') × (x ≡ x')
  one_next {cells = cells} {at = at} h k = Unique.one_next t p i cells at h k

  one_writing : {n : ℕ} {old last last' : List ℕ} {r r' : Written} → Wrote t p i n old last r → Wrote t p i n old last' r' → (r ≡ r') × (last ≡ last')
  one_writing h k = Unique.one_writing t p i h k

  one_row_writing : {ns old last last' : List ℕ} {r r' : Outcome} → WroteRow t p i ns old last r → WroteRow t p i ns old last' r' → (r ≡ r') × (last ≡ last')
  one_row_writing h k = Unique.one_row_writing t p i h k

  one_row_reading : {cs old last last' : List ℕ} {r r' : Outcome} → GotRow t p i cs old last r → GotRow t p i cs old last' r' → (r ≡ r') × (last ≡ last')
  one_row_reading h k = Unique.one_row_reading t p i h k

  refused_write : {n : ℕ} {old last : List ℕ} {r : Refusal} {k : ℕ} → Wrote t p i n old last (refused r k) → last ≡ old
  refused_write h = h.holds

  refused_row : {ns old last : List ℕ} {r : Refusal} {k item : ℕ} → WroteRow t p i ns old last (refused_at r k item) → last ≡ old
  refused_row h = h.holds

  refused_row_read : {cs old last : List ℕ} {r : Refusal} {k item : ℕ} → GotRow t p i cs old last (refused_at r k item) → last ≡ old
  refused_row_read h = h.holds

-- ---- For every accepted table and every start in it
module _ (t p : List ℕ) (a : verdict t p ≡ accepted) (i : ℕ) (l : i < nodes t) where
  -- ---- Demand 2. Of the case of a number and the number of a case each undoes the other, and nothing else is accepted.
  case_written : {n : ℕ} {cs old last : List ℕ} {r : Written} → Asked (rules_of t p i).size n → Case (rules_of t p) i n cs → length cs ≤ length old
      → Wrote t p i n old last r → (r ≡ Ok (length cs)) × (take (length cs) last ≡ cs)
  case_written q c f h = Sides.case_written t p a i l q c f h

  written_then_read : {n k : ℕ} {old last : List ℕ} → Wrote t p i n old last (Ok k) → reads t p i (take k last) ≡ Ok n
  written_then_read h = Sides.written_then_read t p a i l h

  read_then_written : {n : ℕ} {cs old last : List ℕ} {r : Written} → reads t p i cs ≡ Ok n → length cs ≤ length old → Wrote t p i n old last r
      → (r ≡ Ok (length cs)) × (take (length cs) last ≡ cs)
  read_then_written e f h = Sides.read_then_written t p a i l e f h

  only_cases : (n : ℕ) (cs : List ℕ) → reads t p i cs ≡ Ok n → Asked (rules_of t p i).size n × Case (rules_of t p) i n cs
  only_cases = Both-sides.only_cases t p a i l

  one_case : (n : ℕ) (cs ds : List ℕ) → reads t p i cs ≡ Ok n → reads t p i ds ≡ Ok n → cs ≡ ds
  one_case = Both-sides.one_case t p a i l

  size_small : (s : ℕ) → size_at (sizes t p) i ≡ finite s → (0 < s) × (s ≤ 2 ^ 62)
  size_small = Meaning.accepted_small t p a i l

  every_number : (n : ℕ) → Below n (size_at (sizes t p) i) → (d : ℕ) × (cs : List ℕ) × (walk (rules_of t p) d 0 i n ≡ map cell cs)
  every_number = Ends.every_number t p a i l

  -- ---- Demand 3. A row reads back as exactly its list; no other list writes the same row; no case is the beginning of a different case.
  no_beginning : (m n : ℕ) (cs more : List ℕ) → reads t p i cs ≡ Ok m → reads t p i (cs ++ more) ≡ Ok n → (more ≡ []) × (m ≡ n)
  no_beginning = Both-sides.no_beginning t p a i l

  longer_refused : (n : ℕ) (cs : List ℕ) (c : ℕ) (more : List ℕ) → Asked (rules_of t p i).size n → Case (rules_of t p) i n cs → reads t p i (cs ++ (c ∷ more))
      ≡ refused NotACase 0
  longer_refused = Both-sides.longer_refused t p a i l

  -- at any depths, and for any two numbers, whether or not `read` gives them (a case whose number is 2^62 or more is one too)
  no_case_begins : (d d' m n : ℕ) (cs more : List ℕ) → Below m (size_at (sizes t p) i) → Below n (size_at (sizes t p) i)
      → walk (rules_of t p) d 0 i m ≡ map cell cs → walk (rules_of t p) d' 0 i n ≡ map cell (cs ++ more) → (more ≡ []) × (m ≡ n)
  no_case_begins = Both-sides.no_case_begins t p a i l

  row_there_and_back : {ns : List ℕ} {css : List (List ℕ)} → Cut (rules_of t p) i ns css → {old last old' last' : List ℕ} {w r : Outcome}
      → length (joined css) ≤ length old → length ns ≤ length old' → WroteRow t p i ns old last w → GotRow t p i (take (length (joined css)) last) old' last' r
      → (w ≡ done (length ns) (length (joined css))) × (take (length (joined css)) last ≡ joined css)
      × (r ≡ done (length ns) (length (joined css))) × (take (length ns) last' ≡ ns)
  row_there_and_back cut f f' h k = One-list.row_there_and_back t p a i l cut f f' h k

  one_list : {ns ms old last old' last' : List ℕ} {m c m' c' : ℕ} → WroteRow t p i ns old last (done m c) → WroteRow t p i ms old' last' (done m' c')
      → take c last ≡ take c' last' → ns ≡ ms
  one_list h k e = One-list.one_list t p a i l h k e

  one_cut : {ns ms : List ℕ} {css dss : List (List ℕ)} → Cut (rules_of t p) i ns css → Cut (rules_of t p) i ms dss → joined css ≡ joined dss
      → (ns ≡ ms) × (css ≡ dss)
  one_cut cut cut' e = One-list.one_cut t p a i l cut cut' e

  only_cuts : {cs old last : List ℕ} {m c : ℕ} → GotRow t p i cs old last (done m c)
      → (css : List (List ℕ)) × Cut (rules_of t p) i (take m last) css × (joined css ≡ cs)
  only_cuts h = One-list.only_cuts t p a i l h

  case_handed : {n : ℕ} {cs : List ℕ} → Asked (rules_of t p i).size n → Case (rules_of t p) i n cs → (before rest : List ℕ)
      → stride_of t p i (before ++ (cs ++ rest)) (length before) ≡ record { answer = hands n (length cs); at = length before + length cs }
  case_handed q c before rest = One-list.case_handed t p a i l q c before rest

  reader_refused : {row old last : List ℕ} {r : Refusal} {item : ℕ} → GotRow t p i row old last (refused_at r 0 item) → length row ≤ length old
      → (ns : List ℕ) × (css : List (List ℕ)) × (rest : List ℕ) × Cut (rules_of t p) i ns css × (row ≡ joined css ++ rest)
      × (asks (stride_of t p i row) (suc item) 0 ≡ hand_out 0 ns css (refused r 0))
  reader_refused h f = One-list.reader_refused t p a i l h f

  reader_done : {row old last : List ℕ} {m c : ℕ} → GotRow t p i row old last (done m c)
      → (css : List (List ℕ)) × (joined css ≡ row) × (asks (stride_of t p i row) (suc m) 0 ≡ hand_out 0 (take m last) css at_end)
  reader_done h = One-list.reader_done t p a i l h

-- ---- The worked cases, computed from the definitions
tables : map Tables.asked Tables.tables ≡ map Tables.expected Tables.tables
tables = Tables.checked

-- the thirteen that 01 marks P
cases : map (map Cases.asked) Cases.marked ≡ map (map Cases.expected) Cases.marked
cases = Cases.worked

other_cases : map Cases.asked Cases.others ≡ map Cases.expected Cases.others
other_cases = Cases.others_worked

rows : map Rows.asked Rows.rows ≡ map Rows.expected Rows.rows
rows = Rows.worked
