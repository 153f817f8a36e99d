-- What the code of `decided`, `fits` and `write` has found, in the words of their promises.
--   asked_small                the test of a number, as the code makes it
--   decided_12, fits_12        refused before the walk
--   visits_of, may             else the walk may be made
--   lent_long                  the front of a buffer that is lent to it
--   decided_walk, fits_walk    by what the walk met, without a buffer and over the front of one
--   settled_cells, settled_sure   what is settled before the buffer is written: by the first pass, or since every case fits
--   placed                     by what the second pass made of the buffer
-- Assumes nothing.
use mathlib.Core.Path.{◌≡◌, refl, sym, subst, ap, ◌∙◌}
use mathlib.Core.Bool.{Bool, true, false, and-true, false≢true}
use mathlib.Core.List.{List, [], ◌∷◌, ◌++◌}
use Prim.Native.Nat.{ℕ, zero, suc, ◌^◌, ◌≤◌, ◌<◌}
use native.Mathlib.Nat.{not-suc-le-zero, le_of_suc-le-suc}
use native.Mathlib.Omega.{arith}
use lib.Dec.{ltb}
use lib.ListN.{length, take, drop, length-take, length-drop, length-append, take-append-drop}
use borrow.Author.Tests.{lt-ltb}
use Rattle.numbers.specs.Size.{Size, size_of, Below}
use Rattle.numbers.proofs.size.SizeWords.{by_size}
use Rattle.grammar.specs.Plan.{size_word}
use Rattle.grammar.specs.declared.entry.Entry.{Entry}
use Rattle.grammar.specs.declared.refusal.Refusal.{Refusal}
use Rattle.grammar.specs.declared.refusal.Refusal.TheVariants.{NoSuchNumber}
use Rattle.grammar.specs.Rule.{Rule}
use Rattle.grammar.specs.Plan.{rule_in}
use Rattle.walk.specs.Walk.{walk, cells, depth}
use Rattle.walk.specs.Room.{RoomLeft, tallied}
use Rattle.walk.specs.Laid.{Laid}
use Rattle.lists.specs.Filled.{over}
use Rattle.walk.proofs.Rooms.{tally_count}
use Rattle.walk.specs.Plan.{Visits, Reading}
use Rattle.laying.specs.Sure.{Sure}
use Rattle.checked.specs.Fits.{asked, Asked, room_for, Fit, case_cells, outcome, fitted, FitOver, places, Placed}
use Rattle.std.specs.Prelude.{Ok, Err}
use Rattle.checked.proofs.Fitted.{was_asked, cells_left, fitted_is}

-- ---- a number against the word of a size
module _ (w n : ℕ) where
  pub asked_small : n < 2 ^ 62 → ltb n w ≡ asked (size_of w) n
  asked_small h = by_size (λ s. ltb n w ≡ asked s n) w (λ f. rw (lt-ltb n (2 ^ 62) h) (sym (and-true (ltb n w))))
      (λ f. rw (lt-ltb n (2 ^ 62) h) (lt-ltb n w (omega arith)))

module _ {plan : List Entry} {p : List ℕ} {i : ℕ} (h : Reading plan p i) (n : ℕ) {b : Bool} (a : b ≡ asked (size_of (size_word plan i)) n) where
  -- the size that the plan has is the rule's
  asked_here : b ≡ asked (rule_in plan p i).size n
  asked_here = a ∙ ap (λ (s : Size). asked s n) (h.walks.good.sized i h.node)

  -- ---- refused before the walk
  pub decided_12 : (room : ℕ) → b ≡ false → Err NoSuchNumber ≡ fitted (rule_in plan p) i n room
  unfolding fitted
  decided_12 room e = rw (← asked_here, e)

  -- ---- by what the walk met
  module _ (yes : b ≡ true) where
    is_so : asked (rule_in plan p i).size n ≡ true
    is_so = sym asked_here ∙ yes

    pub may : Asked (rule_in plan p i).size n
    may = was_asked (rule_in plan p i).size n is_so

    pub visits_of : Visits plan p i n
    visits_of = record { walks = h.walks; node = h.node; below = subst (Below n) (sym (h.walks.good.sized i h.node)) may.below }

    pub decided_walk : (room : ℕ) {most : ℕ} (w : RoomLeft) {f : Fit} → most ≡ room_for room → f ≡ outcome most w
        → w ≡ tallied most (walk (rule_in plan p) depth 0 i n) → f ≡ fitted (rule_in plan p) i n room
    unfolding fitted
    decided_walk room w m e l = e ∙ rw (is_so, l, m)

-- ---- over a buffer: after 12 it is as it was
pub lent_long : (old : List ℕ) {most : ℕ} → most ≡ room_for (length old) → most ≡ length (take most old)
lent_long old m = simp length-take (omega (arith, m))

over_part : (cs old : List ℕ) (k : ℕ) → length cs ≤ k → over cs (take k old) ++ drop k old ≡ over cs old
unfolding over
over_part [] old k l = take-append-drop k old
over_part (c ∷ cs) old zero l = absurd (not-suc-le-zero l)
over_part (c ∷ cs) [] (suc k) l = refl
over_part (c ∷ cs) (x ∷ old) (suc k) l = ap (λ (xs : List ℕ). c ∷ xs) (over_part cs old k (le_of_suc-le-suc l))

module _ {plan : List Entry} {p : List ℕ} {i : ℕ} (h : Reading plan p i) (n : ℕ) {b : Bool} (a : b ≡ asked (size_of (size_word plan i)) n) (old : List ℕ) where
  pub fits_12 : b ≡ false → FitOver (rule_in plan p) i n old old (Err NoSuchNumber)
  fits_12 e = record {
    is = decided_12 h n a (length old) e;
    long = refl;
    holds = λ k q. let z : ◌≡◌ {A = ℕ} 0 1 = cc in absurd (omega arith);
    kept = λ u. refl;
  }

  -- the front of the buffer, as long as a case may be, is lent on
  module _ (yes : b ≡ true) {most : ℕ} (w : RoomLeft) {f : Fit} (m : most ≡ room_for (length old)) (e : f ≡ outcome most w) where
    pub fits_long : {part : List ℕ} → Laid (length (take most old)) (walk (rule_in plan p) depth 0 i n) (take most old) part w
        → length (part ++ drop most old) ≡ length old
    fits_long l = simp length-append (omega (arith, l.long, lent_long old m, length-drop most old, m))

    pub fits_walk : {part last : List ℕ} → Laid (length (take most old)) (walk (rule_in plan p) depth 0 i n) (take most old) part w
        → last ≡ part ++ drop most old → FitOver (rule_in plan p) i n old last f
    fits_walk {part} {last} l g =
        let long : length (take most old) ≡ most = sym (lent_long old m) in
        let is : w ≡ tallied most (walk (rule_in plan p) depth 0 i n) = rw long at l.is in
        record {
          is = decided_walk h n a yes (length old) w m e is;
          long = rw g (fits_long l);
          holds = λ k q.
              let (rest, x, y) = cells_left most k w (sym e ∙ q) in
              let count = tally_count most (walk (rule_in plan p) depth 0 i n) (sym is ∙ x) in
              g ∙ (ap (λ (xs : List ℕ). xs ++ drop most old) (l.holds rest x) ∙ over_part (cells (walk (rule_in plan p) depth 0 i n)) old most (omega arith));
          kept = λ u. absurd (false≢true (sym u ∙ is_so h n a yes));
        }

-- ---- a case that is written whole or not at all
-- a number that may be refused by 12 alone, since 13 and 14 are decided before anything is written
abbrev Settled : (ℕ → Rule) → ℕ → ℕ → ℕ → Type 0
Settled g i n room = (r : Refusal) → fitted g i n room ≡ Err r → asked (g i).size n ≡ false

-- a number whose cells are counted is settled
pub settled_cells : (g : ℕ → Rule) (i n room : ℕ) {f : Fit} → f ≡ fitted g i n room → {k : ℕ} → f ≡ Ok k → Settled g i n room
settled_cells g i n room e q = λ r u. let z : ◌≡◌ {A = ℕ} 0 1 = cc in absurd (omega arith)

-- where every case fits, the only refusal is 12
pub settled_sure : {plan : List Entry} {p : List ℕ} {i : ℕ} (h : Reading plan p i) (n : ℕ) (old : List ℕ) {room : ℕ} → room ≡ room_for (length old) → Sure plan i room
    → Settled (rule_in plan p) i n (length old)
settled_sure {plan} {p} {i} h n old m s r q = by (asked (rule_in plan p i).size n) refl
  where
    by : (b : Bool) → asked (rule_in plan p i).size n ≡ b → asked (rule_in plan p i).size n ≡ false
    by false u = u
    by true u =
        let a = was_asked (rule_in plan p i).size n u in
        let b = subst (Below n) (sym (h.walks.good.sized i h.node)) a.below in
        let w = s.fits p n (record { walks = h.walks; node = h.node; below = b }) in
        let k : fitted (rule_in plan p) i n (length old) ≡ Ok (length w.case) = fitted_is (rule_in plan p) i n (length old) w.case a w.shows
        (omega (arith, w.few, m)) in
        let z : ◌≡◌ {A = ℕ} 0 1 = cc in
        absurd (omega arith)

module _ {g : ℕ → Rule} {i n : ℕ} {old : List ℕ} where
  pub placed : {last : List ℕ} {f : Fit} → Settled g i n (length old) → FitOver g i n old last f → Placed g i n old last f
  placed {last} {f} s e = record { is = e.is; holds = by f refl }
    where
      by : (r : Fit) → f ≡ r → last ≡ places f (case_cells g i n) old
      by (Ok k) q = rw q (e.holds k q)
      by (Err r) q = rw q (e.kept (s r (sym e.is ∙ q)))
