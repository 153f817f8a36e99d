-- Towards the theorems of `OneList`: rows that are cut into cases, for an accepted table and a start in it.
--   front_case, case_front   a case at the front of cells is read, and only a case is
--   turns_cut, cut_turns     a cut row is written, and a row that is written is cut
--   gather_cut, cut_gather   a cut row is read, and a row that is read is cut
--   cut_stopped              a row that is refused is cut up to the item that is
--   asks_cut                 a reader hands out a cut row, and then what stands after it
-- Assumes nothing.
use mathlib.Core.Path.{◌≡◌, refl, sym, ap, subst, ◌∙◌}
use mathlib.Core.List.{List, [], ◌∷◌, ◌++◌, append_assoc}
use Prim.Native.Nat.{ℕ, zero, suc, ◌+◌, ◌-◌, ◌^◌, ◌≤◌, ◌<◌}
use native.Mathlib.Nat.{not-suc-le-zero, le_of_suc-le-suc}
use native.Mathlib.Omega.{arith}
use lib.ListN.{length, drop, length-append}
use lib.Seq.{drop-append_seam, drop-drop}
use borrow.Author.Tests.{lt-ltb}
use Rattle.grammar.specs.Table.{nodes}
use Rattle.grammar.specs.Verdict.{verdict}
use Rattle.grammar.specs.declared.refusal.Refusal.{Refusal}
use Rattle.std.specs.Prelude.{Ok}
use Rattle.grammar.specs.Refusals.{accepted, refused as refuses}
use Rattle.grammar.specs.Rule.{Rule}
use Rattle.grammar.specs.Sizes.{rules_of}
use Rattle.walk.specs.Walk.{cells, depth}
use Rattle.walk.specs.Room.{Case, most}
use Rattle.walk.specs.Run.{run}
use Rattle.checked.specs.Fits.{case_cells, Asked, fitted}
use Rattle.checked.specs.Item.{Front, number, refused, front_of, front}
use Rattle.checked.proofs.Fitted.{cells_map, fitted_is, fitted_cells}
use Rattle.cases.proofs.WalkAnswers.{front_number}
use Rattle.cases.proofs.BothSides.{case_some, reads_on, read_case}
use Rattle.rows.specs.WriteRow.{in_turn, row_of}
use Rattle.rows.specs.ReadRow.{Gathered, all, stopped, after, gather}
use Rattle.rows.specs.ReadRow as Rows-read
use Rattle.rows.specs.Reader.{Reply, hands, next, next_of, after_of, stride_of}
use Rattle.rows.specs.Cut.{Cut, none, item, joined, hand_out, asks}
use Rattle.rows.specs.Row.{done}
use Rattle.rows.proofs.WrittenInTurn.{onward_done}
use Rattle.rows.proofs.Gathering.{gather_none, gather_full, gather_more, full_not, onward_all, gathered_none}
use Rattle.checked.proofs.Opens.{opens}
use Rattle.rows.proofs.Calls.{next_some}

-- ---- one case for a number
same_case : {g : ℕ → Rule} {i n : ℕ} {cs ds : List ℕ} → Case g i n cs → Case g i n ds → cs ≡ ds
same_case {g} {i} {n} {cs} {ds} c d = sym (cells_map cs) ∙ ap cells (sym c.shows ∙ d.shows) ∙ cells_map ds

cases_same : {g : ℕ → Rule} {i : ℕ} {ns : List ℕ} {css dss : List (List ℕ)} → Cut g i ns css → Cut g i ns dss → css ≡ dss
cases_same none none = refl
cases_same (item q c k) (item q' c' k') = cc (same_case c c', cases_same k k')

-- ---- answers turned round
after_stopped : (n : ℕ) (x : Gathered) {r : Refusal} {k : ℕ} → after n x ≡ stopped r k → (j : ℕ) × (x ≡ stopped r j) × (k ≡ suc j)
after_stopped n (all ms) e = let z : ◌≡◌ {A = ℕ} 0 1 = cc in absurd (omega arith)
after_stopped n (stopped x j) {r} {k} e =
    let s : x ≡ r = cc in
    let s' : suc j ≡ k = cc in
    (j, ap (λ y. stopped y j) s, sym s')

module _ (t p : List ℕ) (a : verdict t p ≡ accepted) (i : ℕ) (l : i < nodes t) where
  abbrev g : ℕ → Rule
  g = rules_of t p

  -- a cut row has cases of one cell and more
  some_cells : {n : ℕ} {cs : List ℕ} (rest : List ℕ) → Asked (g i).size n → Case g i n cs → 0 < length (cs ++ rest)
  some_cells {n} {cs} rest q c = omega (arith, case_some t p a i l n cs q c, length-append cs rest)

  -- ---- a case at the front
  front_case : {n : ℕ} {cs : List ℕ} → Asked (g i).size n → Case g i n cs → (rest : List ℕ) → front g i (cs ++ rest) ≡ number n rest
  unfolding front_of
  front_case {n} {cs} q c rest = rw (reads_on t p a i l rest q c, lt-ltb n (2 ^ 62) q.small)

  pub case_front : {n : ℕ} {cs rest : List ℕ} → front g i cs ≡ number n rest → (ws : List ℕ) × Asked (g i).size n × Case g i n ws × (cs ≡ ws ++ rest)
  case_front {cs = cs} e = let (q, r, s) = front_number (run g depth 0 i most cs) e in read_case t p a i l r s

  -- ---- writing
  pub turns_cut : {ns : List ℕ} {css : List (List ℕ)} (room : ℕ) → Cut g i ns css → length (joined css) ≤ room
      → (in_turn g i room ns ≡ done (length ns) (length (joined css))) × (row_of g i ns ≡ joined css)
  unfolding in_turn row_of joined
  turns_cut room none f = (refl, refl)
  turns_cut room (item {n} {ns} {cs} {css} q c k) f =
      let many = length-append cs (joined css) in
      let (x, y) = turns_cut (room - length cs) k (omega arith) in
      let w : fitted g i n room ≡ Ok (length cs) = fitted_is g i n room cs q c.shows (omega (arith, c.few)) in
      let one : 1 + length ns ≡ suc (length ns) = omega arith in
      let shown : case_cells g i n ≡ cs = rw c.shows (cells_map cs) in
      (rw (w, x, one, many), rw (shown, y))

  pub cut_turns : (room : ℕ) (ns : List ℕ) {m c : ℕ} → in_turn g i room ns ≡ done m c → (css : List (List ℕ)) × Cut g i ns css × (joined css ≡ row_of g i ns)
  unfolding in_turn row_of joined
  cut_turns room [] e = ([], none, refl)
  cut_turns room (n ∷ ns) e =
      let (k, items, used, f, r, s, s') = onward_done (fitted g i n room) _ e in
      let (q, shows, many, few) = fitted_cells g i n room k f in
      let (css, cut, same) = cut_turns (room - k) ns r in
      (case_cells g i n ∷ css, item {cs = case_cells g i n} q (record { shows = shows; few = omega arith }) cut, rw same)

  -- ---- reading
  pub gather_cut : {ns : List ℕ} {css : List (List ℕ)} (room : ℕ) → Cut g i ns css → length ns ≤ room → gather g i room (joined css) ≡ all ns
  unfolding joined
  gather_cut room none f = gather_none g i room
  gather_cut zero (item q c k) f = absurd (not-suc-le-zero f)
  gather_cut (suc room) (item {n} {ns} {cs} {css} q c k) f =
      rw (gather_more g i room (cs ++ joined css) (some_cells (joined css) q c), front_case q c (joined css), gather_cut room k (le_of_suc-le-suc f))

  pub cut_gather : (room : ℕ) (cs ns : List ℕ) → gather g i room cs ≡ all ns → (css : List (List ℕ)) × Cut g i ns css × (joined css ≡ cs)
  unfolding joined
  cut_gather zero [] ns e = ([], subst (λ (ms : List ℕ). Cut g i ms []) (gathered_none g i 0 e) none, refl)
  cut_gather (suc room) [] ns e = ([], subst (λ (ms : List ℕ). Cut g i ms []) (gathered_none g i (suc room) e) none, refl)
  cut_gather zero (c ∷ cs) ns e = absurd (full_not (front g i (c ∷ cs)) (sym (gather_full g i (c ∷ cs) (omega arith)) ∙ e))
  cut_gather (suc room) (c ∷ cs) ns e =
      let (n, ds, ms, u, v, w) = onward_all (front g i (c ∷ cs)) (λ rest. gather g i room rest) (sym (gather_more g i room (c ∷ cs) (omega arith)) ∙ e) in
      let (ws, q, k, same) = case_front u in
      let (css, cut, join) = cut_gather room ds ms v in
      (ws ∷ css, subst (λ (xs : List ℕ). Cut g i xs (ws ∷ css)) (sym w) (item q k cut), rw join (sym same))

  -- ---- the reader
  next_is : (row : List ℕ) (at : ℕ) → next_of t p i row at ≡ next g i (drop at row)
  unfolding next_of
  next_is row at = rw (opens t p a i l)

  counted : (n : ℕ) (xs ys : List ℕ) → hands n (length (xs ++ ys) - length ys) ≡ hands n (length xs)
  counted n xs ys = let s : length (xs ++ ys) - length ys ≡ length xs = omega (arith, length-append xs ys) in rw s

  next_case : (row : List ℕ) (at : ℕ) {n : ℕ} {cs : List ℕ} (rest : List ℕ) → Asked (g i).size n → Case g i n cs → drop at row ≡ cs ++ rest
      → next_of t p i row at ≡ hands n (length cs)
  next_case row at {n} {cs} rest q c e = next_is row at ∙ rw (e, next_some g i (cs ++ rest) (some_cells rest q c), front_case q c rest) (counted n cs rest)

  pub stride_case : {n : ℕ} {cs : List ℕ} → Asked (g i).size n → Case g i n cs → (before rest : List ℕ)
      → stride_of t p i (before ++ (cs ++ rest)) (length before) ≡ record { answer = hands n (length cs); at = length before + length cs }
  stride_case {n} {cs} q c before rest = rw (next_case (before ++ (cs ++ rest)) (length before) rest q c (drop-append_seam before (cs ++ rest)))

  -- the items of a cut, and then what stands at the front of the rest
  pub asks_cut : (row rest : List ℕ) (at : ℕ) (last : Reply) {ns : List ℕ} {css : List (List ℕ)} → next g i rest ≡ last → ((to : ℕ) → after_of to last ≡ to)
      → Cut g i ns css → drop at row ≡ joined css ++ rest → asks (stride_of t p i row) (suc (length ns)) at ≡ hand_out at ns css last
  unfolding asks hand_out joined
  asks_cut row rest at last f stays none e =
      let here : next_of t p i row at ≡ last = next_is row at ∙ rw e f in
      rw (here, stays at)
  asks_cut row rest at last f stays (item {n} {ns} {cs} {css} q c k) e =
      let whole : drop at row ≡ cs ++ (joined css ++ rest) = e ∙ append_assoc cs (joined css) rest in
      let there : drop (at + length cs) row ≡ joined css ++ rest = sym (drop-drop (length cs) at row) ∙ rw whole (drop-append_seam cs (joined css ++ rest)) in
      rw (next_case row at (joined css ++ rest) q c whole)
      (ap (λ more. record { answer = hands n (length cs); at = at + length cs } ∷ more) (asks_cut row rest (at + length cs) last f stays k there))

  -- ---- a row that is refused: the items before it are cut, and it stands at the front of the rest
  abbrev StoppedAt : List ℕ → Refusal → ℕ → Type 0
  StoppedAt cs r k = (ns : List ℕ) × (css : List (List ℕ)) × (rest : List ℕ) × Cut g i ns css × (cs ≡ joined css ++ rest) × (k ≡ length ns) ×
      (next g i rest ≡ refuses r 0)

  stopped_by : (room : ℕ) (cs : List ℕ) {r : Refusal} {k : ℕ} → length cs ≤ suc room → 0 < length cs
      → ((ds : List ℕ) (j : ℕ) → length ds ≤ room → gather g i room ds ≡ stopped r j → StoppedAt ds r j)
      → (x : Front) → front g i cs ≡ x → Rows-read.onward x (λ rest. gather g i room rest) ≡ stopped r k → StoppedAt cs r k
  unfolding joined
  stopped_by room cs {r} {k} f some again (refused x) u v =
      let s : x ≡ r = cc in
      let s' : ◌≡◌ {A = ℕ} 0 k = cc in
      ([], [], cs, none, refl, sym s', next_some g i cs some ∙ rw (u, s))
  stopped_by room cs f some again (number n ds) u v =
      let (j, w, up) = after_stopped n (gather g i room ds) v in
      let (ws, q, one, same) = case_front u in
      let fewer : length ds ≤ room = omega (arith, case_some t p a i l n ws q one, ap length same, length-append ws ds) in
      let (ns, css, rest, cut, whole, many, last) = again ds j fewer w in
      (n ∷ ns, ws ∷ css, rest, item q one cut, same ∙ ap (λ (xs : List ℕ). ws ++ xs) whole ∙ sym (append_assoc ws (joined css) rest), omega arith, last)

  stopped_none : (room : ℕ) {r : Refusal} {k : ℕ} → gather g i room [] ≡ stopped r k → ⊥
  stopped_none room {r} {k} e = let u : all [] ≡ stopped r k = sym (gather_none g i room) ∙ e in let z : ◌≡◌ {A = ℕ} 0 1 = cc in omega arith

  pub cut_stopped : (room : ℕ) (cs : List ℕ) {r : Refusal} (k : ℕ) → length cs ≤ room → gather g i room cs ≡ stopped r k → StoppedAt cs r k
  cut_stopped zero [] k f e = absurd (stopped_none 0 e)
  cut_stopped zero (c ∷ cs) k f e = absurd (not-suc-le-zero f)
  cut_stopped (suc room) [] k f e = absurd (stopped_none (suc room) e)
  cut_stopped (suc room) (c ∷ cs) k f e =
      stopped_by room (c ∷ cs) f (omega arith) (λ ds j l' h. cut_stopped room ds j l' h) (front g i (c ∷ cs)) refl
      (sym (gather_more g i room (c ∷ cs) (omega arith)) ∙ e)

  -- ---- one cut
  pub cut_same : {ns ms : List ℕ} {css dss : List (List ℕ)} → Cut g i ns css → Cut g i ms dss → joined css ≡ joined dss → (ns ≡ ms) × (css ≡ dss)
  cut_same {ns} {ms} {css} {dss} cut cut' e =
      let room = length ns + length ms in
      let one : all ns ≡ all ms = sym (gather_cut room cut (omega arith)) ∙ ap (gather g i room) e ∙ gather_cut room cut' (omega arith) in
      let same : ns ≡ ms = cc in
      (same, cases_same cut (subst (λ (xs : List ℕ). Cut g i xs dss) (sym same) cut'))
