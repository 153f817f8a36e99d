-- What `fitted` says of a walk.
--   is_asked, was_asked   a number that may be asked for, and its test
--   cells_left     an answer with a count
--   fitted_is      the walk meets cells only and they are few enough, so they are counted
--   fitted_cells   the cells are counted, so the number may be asked for, and its walk meets cells only
-- Assumes nothing.
use mathlib.Core.Path.{◌≡◌, refl, sym, ap}
use mathlib.Core.Bool.{true}
use mathlib.Core.List.{List, [], ◌∷◌, map}
use Prim.Native.Nat.{ℕ, zero, suc, ◌-◌, ◌^◌, ◌≤◌}
use native.Mathlib.Nat.{not-suc-le-zero, le_of_suc-le-suc}
use native.Mathlib.Omega.{arith}
use lib.ListN.{length}
use lib.Dec.{ltb}
use borrow.Author.Tests.{lt-ltb, ltb-true}
use Rattle.numbers.specs.Size.{Size, finite, endless}
use Rattle.grammar.specs.Rule.{Rule}
use Rattle.walk.specs.Walk.{Event, cell, deep, walk, cells, depth}
use Rattle.walk.specs.Room.{RoomLeft, Left, tallied}
use Rattle.walk.specs.Room.{TooDeep as Deep, NoRoom as Full}
use Rattle.checked.specs.Fits.{asked, Asked, room_for, outcome, fitted}
use Rattle.std.specs.Prelude.{Ok}
use Rattle.numbers.proofs.Tests.{and_left, and_right, pick_by}
use Rattle.walk.proofs.Rooms.{tally_count}

pub is_asked : (s : Size) (n : ℕ) → Asked s n → asked s n ≡ true
is_asked (finite m) n a = rw (lt-ltb n m a.below, lt-ltb n (2 ^ 62) a.small)
is_asked endless n a = lt-ltb n (2 ^ 62) a.small

-- a number that passes the test
pub was_asked : (s : Size) (n : ℕ) → asked s n ≡ true → Asked s n
was_asked (finite m) n e = record {
  below = ltb-true n m (and_left (ltb n m) (ltb n (2 ^ 62)) e);
  small = ltb-true n (2 ^ 62)
      (and_right (ltb n m) (ltb n (2 ^ 62)) e);
}
was_asked endless n e = record { below = tt; small = ltb-true n (2 ^ 62) e }

-- an answer with a count
pub cells_left : (room k : ℕ) (x : RoomLeft) → outcome room x ≡ Ok k → (rest : ℕ) × (x ≡ Left rest) × (k ≡ room - rest)
cells_left room k (Left rest) e = let s : room - rest ≡ k = cc in (rest, refl, sym s)
cells_left room k Deep e = let z : ◌≡◌ {A = ℕ} 0 1 = cc in absurd (omega arith)
cells_left room k Full e = let z : ◌≡◌ {A = ℕ} 0 1 = cc in absurd (omega arith)

-- ---- events that are cells and nothing else
pub cells_map : (cs : List ℕ) → cells (map cell cs) ≡ cs
unfolding cells
cells_map [] = refl
cells_map (c ∷ cs) = ap (λ (l : List ℕ). c ∷ l) (cells_map cs)

tallied_map : (room : ℕ) (cs : List ℕ) → length cs ≤ room → tallied room (map cell cs) ≡ Left (room - length cs)
unfolding tallied
tallied_map room [] l = let s : room - 0 ≡ room = omega arith in rw s
tallied_map zero (c ∷ cs) l = absurd (not-suc-le-zero l)
tallied_map (suc room) (c ∷ cs) l = let s : suc room - suc (length cs) ≡ room - length cs = omega arith in rw s (tallied_map room cs (le_of_suc-le-suc l))

tallied_left : (room : ℕ) (es : List Event) {rest : ℕ} → tallied room es ≡ Left rest → es ≡ map cell (cells es)
unfolding tallied cells
tallied_left room [] e = refl
tallied_left room (deep ∷ es) e = let z : ◌≡◌ {A = ℕ} 0 1 = cc in absurd (omega arith)
tallied_left zero (cell c ∷ es) e = let z : ◌≡◌ {A = ℕ} 0 1 = cc in absurd (omega arith)
tallied_left (suc room) (cell c ∷ es) e = ap (λ (l : List Event). cell c ∷ l) (tallied_left room es e)

module _ (g : ℕ → Rule) (i n room : ℕ) where
  pub fitted_is : (cs : List ℕ) → Asked (g i).size n → walk g depth 0 i n ≡ map cell cs → length cs ≤ room_for room → fitted g i n room ≡ Ok (length cs)
  unfolding fitted
  fitted_is cs q e k =
      let s : room_for room - (room_for room - length cs) ≡ length cs = omega arith in
      rw (is_asked (g i).size n q, e, tallied_map (room_for room) cs k, s)

  -- the number may be asked for, and its walk meets so many cells, and nothing else
  abbrev pub Counts : ℕ → Type 0
  Counts k = Asked (g i).size n × (walk g depth 0 i n ≡ map cell (cells (walk g depth 0 i n))) × (length (cells (walk g depth 0 i n)) ≡ k) × (k ≤ room_for room)

  pub fitted_cells : (k : ℕ) → fitted g i n room ≡ Ok k → Counts k
  unfolding fitted
  fitted_cells k e = pick_by (λ f. f ≡ Ok k → Counts k) (asked (g i).size n) (λ u v.
      let (rest, f, s) = cells_left (room_for room) k (tallied (room_for room) (walk g depth 0 i n)) v in
      let c = tally_count (room_for room) (walk g depth 0 i n) f in
      (was_asked (g i).size n u, tallied_left (room_for room) (walk g depth 0 i n) f, omega arith, omega arith))
      (λ u v. let z : ◌≡◌ {A = ℕ} 0 1 = cc in absurd (omega arith)) e
