-- The items of a row that is written, in turn.
--   Tallying      the first pass: a row's answer is that of its rest, so many items and cells later
--   Laying        the second pass: and its first items' cells are over the buffer's front
--   done_row      all items fit: the counts are the row's
-- Assumes nothing.
use mathlib.Core.Path.{◌≡◌, refl, sym, ap, ◌∙◌}
use mathlib.Core.List.{List, [], ◌∷◌, ◌++◌, append_assoc, append-nil}
use Prim.Native.Nat.{ℕ, suc, ◌+◌, ◌-◌, ◌≤◌, ◌<◌, min}
use native.Mathlib.Nat.{add_assoc, zero-add}
use native.Mathlib.Numerals.{add-one}
use native.Mathlib.Omega.{arith}
use lib.ListN.{length, get_or, take, drop, length-append, length-drop, length-take, drop_of_length-le}
use lib.Seq.{take_all, take-suc, drop-cons}
use Rattle.grammar.specs.declared.refusal.Refusal.{Refusal}
use Rattle.grammar.specs.Rule.{Rule}
use Rattle.lists.specs.Filled.{over}
use Rattle.lists.proofs.Fills.{length_over, part_old, then}
use Rattle.checked.specs.Fits.{Fit, case_cells, fitted, FitOver}
use Rattle.std.specs.Prelude.{Result, Ok, Err}
use Rattle.checked.proofs.Fitted.{fitted_cells}
use Rattle.rows.specs.WriteRow.{later, onward, in_turn, row_of, RowOver}
use Rattle.rows.proofs.Outcomes.{done_same, found_err}
use Rattle.rows.specs.Row.{Outcome, done, refused_at, at_item}
use Rattle.rows.specs.declared.answer.RowRefused.{RowRefused}

later_later : (a c b e : ℕ) (r : Outcome) → later a c (later b e r) ≡ later (a + b) (c + e) r
later_later a c b e (Ok d) = simp add_assoc
later_later a c b e (Err x) = simp add_assoc

later_none : (r : Outcome) → later 0 0 r ≡ r
later_none (Ok d) = simp zero-add
later_none (Err x) = simp zero-add

-- an answer that is done, turned round
later_done : (k : ℕ) (x : Outcome) {m c : ℕ} → later 1 k x ≡ done m c → (items : ℕ) × (used : ℕ) × (x ≡ done items used) × (m ≡ 1 + items) × (c ≡ k + used)
later_done k (Ok d) {m} {c} e = let (s, s') = done_same e in (d.items, d.cells, refl, sym s, sym s')
later_done k (Err x) e = let z : ◌≡◌ {A = ℕ} 0 1 = cc in absurd (omega arith)

pub onward_done : (f : Fit) (rest : ℕ → Outcome) {m c : ℕ} → onward f rest ≡ done m c
    → (k : ℕ) × (items : ℕ) × (used : ℕ) × (f ≡ Ok k) × (rest k ≡ done items used) × (m ≡ 1 + items) × (c ≡ k + used)
onward_done (Err r) rest e = let z : ◌≡◌ {A = ℕ} 0 1 = cc in absurd (omega arith)
onward_done (Ok k) rest e = let (items, used, u, s, s') = later_done k (rest k) e in (k, items, used, refl, u, s, s')

module _ (g : ℕ → Rule) (i : ℕ) where
  pub record Tallying (room : ℕ) (ns : List ℕ) (j used : ℕ) : Type 0 where
    pub le : j ≤ length ns
    pub fits : used ≤ room
    pub rest : in_turn g i room ns ≡ later j used (in_turn g i (room - used) (drop j ns))

  pub tallying_none : (room : ℕ) (ns : List ℕ) → Tallying room ns 0 0
  tallying_none room ns =
      let s : room - 0 ≡ room = omega arith in
      record { le = omega arith; fits = omega arith; rest = sym (rw s (later_none (in_turn g i room ns))) }

  module _ {room : ℕ} {ns : List ℕ} {j used : ℕ} (h : Tallying room ns j used) where
    module _ (l : j < length ns) {f : Fit} (e : f ≡ fitted g i (get_or ns j 0) (room - used)) where
      here : in_turn g i room ns ≡ later j used (onward f (λ c. in_turn g i (room - used - c) (drop (suc j) ns)))
      unfolding in_turn
      here = h.rest ∙ rw (drop-cons ns j 0 l, e)

      pub tallying_fits : {k : ℕ} → f ≡ Ok k → k ≤ room - used
      tallying_fits {k} q = let (a, s, c, w) = fitted_cells g i (get_or ns j 0) (room - used) k (sym e ∙ q) in omega arith

      pub tallying_more : {k : ℕ} → f ≡ Ok k → Tallying room ns (j + 1) (used + k)
      tallying_more {k} q =
          let s : room - used - k ≡ room - (used + k) = omega arith in
          record {
            le = omega arith;
            fits = omega (arith, tallying_fits q, h.fits);
            rest = here ∙ rw (q, s) (later_later j used 1 k (in_turn g i (room - (used + k)) (drop (suc j) ns)) ∙ rw add-one);
          }

      stopped : {r : Refusal} → f ≡ Err r → refused_at r 0 j ≡ in_turn g i room ns
      stopped q = let s : j + 0 ≡ j = omega arith in sym (here ∙ rw (q, s))

      pub tallying_stops : {s : Result ℕ RowRefused} {x : RowRefused} → s ≡ at_item f j → s ≡ Err x → Err x ≡ in_turn g i room ns
      tallying_stops a q = let (r, k, m) = found_err f j a q in rw m (stopped k)

    tallying_done : length ns ≤ j → done j used ≡ in_turn g i room ns
    unfolding in_turn
    tallying_done l =
        let s : j + 0 ≡ j = omega arith in
        let u : used + 0 ≡ used = omega arith in
        sym (h.rest ∙ rw (drop_of_length-le ns {i = j} l, s, u))

    pub tallying_all : length ns ≤ j → done (length ns) used ≡ in_turn g i room ns
    tallying_all l = let s : length ns ≡ j = omega (arith, h.le) in rw s (tallying_done l)

  -- ---- the row's cells
  row_append : (ms ns : List ℕ) → row_of g i (ms ++ ns) ≡ row_of g i ms ++ row_of g i ns
  unfolding row_of
  row_append [] ns = refl
  row_append (m ∷ ms) ns = rw (row_append ms ns) (sym (append_assoc (case_cells g i m) (row_of g i ms) (row_of g i ns)))

  row_more : (ns : List ℕ) (j : ℕ) → j < length ns → row_of g i (take (j + 1) ns) ≡ row_of g i (take j ns) ++ case_cells g i (get_or ns j 0)
  unfolding row_of
  row_more ns j l = rw (add-one, take-suc ns j 0 l) (row_append (take j ns) (get_or ns j 0 ∷ []) ∙ rw append-nil)

  -- ---- the second pass: what is decided, and what the buffer holds
  pub record Laying (ns old now : List ℕ) (j used : ℕ) : Type 0 where
    pub tally : Tallying (length old) ns j used
    pub many : used ≡ length (row_of g i (take j ns))
    pub holds : now ≡ over (row_of g i (take j ns)) old

  pub laying_none : (ns old : List ℕ) → Laying ns old old 0 0
  unfolding row_of over
  laying_none ns old = record { tally = tallying_none (length old) ns; many = refl; holds = refl }

  module _ {ns old now : List ℕ} {j used : ℕ} (h : Laying ns old now j used) where
    pub laying_long : length now ≡ length old
    laying_long = ap length h.holds ∙ length_over (row_of g i (take j ns)) old

    pub laying_within : used ≤ length now
    laying_within = omega (arith, h.tally.fits, laying_long)

    pub laying_all : length ns ≤ j → RowOver g i ns old now (done (length ns) used)
    laying_all l = record { is = tallying_all h.tally l; long = laying_long; holds = λ m c x. h.holds ∙ rw (take_all j ns l) }

    module _ {part last : List ℕ} (l : j < length ns) (p : part ≡ take (length now - used) (drop used now)) {f : Fit}
        (e : FitOver g i (get_or ns j 0) part last f) where
      part_long : length part ≡ length now - used
      part_long = ap length (p ∙ part_old used now) ∙ length-drop used now

      fit_is : f ≡ fitted g i (get_or ns j 0) (length old - used)
      fit_is = let s : length part ≡ length old - used = omega (arith, laying_long, part_long) in e.is ∙ rw s

      pub laying_fits : {k : ℕ} → f ≡ Ok k → used + k ≤ length now
      laying_fits q = omega (arith, tallying_fits h.tally l fit_is q, h.tally.fits, laying_long)

      pub laying_left : length (take used now ++ (last ++ drop (length now - used) (drop used now))) ≡ length old
      laying_left = simp (length-append, length-take, length-drop) (omega (arith, laying_long, laying_within, part_long, e.long))

      pub laying_more : {k : ℕ} → f ≡ Ok k → Laying ns old (take used now ++ (last ++ drop (length now - used) (drop used now))) (j + 1) (used + k)
      laying_more {k} q =
          let (_, s, c, w) = fitted_cells g i (get_or ns j 0) (length part) k (sym e.is ∙ q) in
          let n : used ≡ min (length (row_of g i (take j ns))) (length old) = omega (arith, h.many, h.tally.fits) in
          record {
            tally = tallying_more h.tally l fit_is q;
            many = omega (arith, h.many, c, ap length (row_more ns j l), length-append (row_of g i (take j ns)) (case_cells g i (get_or ns j 0)));
            holds = rw (row_more ns j l) (then (record { count = n; holds = h.holds }) (record { count = refl; holds = e.holds k q }) p).holds;
          }

      pub laying_stops : {s : Result ℕ RowRefused} {x : RowRefused} → s ≡ at_item f j → s ≡ Err x
          → RowOver g i ns old (take used now ++ (last ++ drop (length now - used) (drop used now))) (Err x)
      laying_stops a q =
          record { is = tallying_stops h.tally l fit_is a q; long = laying_left; holds = λ m c x. let z : ◌≡◌ {A = ℕ} 0 1 = cc in absurd (omega arith) }

  -- ---- a row that is done
  pub done_row : (room : ℕ) (ns : List ℕ) {m c : ℕ} → in_turn g i room ns ≡ done m c → (m ≡ length ns) × (c ≡ length (row_of g i ns)) × (c ≤ room)
  unfolding in_turn row_of
  done_row room [] {m} {c} e = let (s, s') = done_same e in (sym s, sym s', omega arith)
  done_row room (n ∷ ns) e =
      let (k, items, used, f, r, s, s') = onward_done (fitted g i n room) _ e in
      let (a, b, c, w) = fitted_cells g i n room k f in
      let (x, y, z) = done_row (room - k) ns r in
      (omega arith, omega (arith, length-append (case_cells g i n) (row_of g i ns)), omega arith)
