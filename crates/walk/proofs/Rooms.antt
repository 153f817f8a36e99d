-- What a walk leaves of a room, put together from what its parts leave of it.
--   tallied_..               a room through no cell, one cell, two walks
--   tallied_up               what is left does not depend on what the cells are
--   cells_append             the cells of two walks
--   tally_count, left_within the cells that a room has let through
--   two_stops, two_left      what stops the first part stops both; what it leaves is the second's room
-- Assumes nothing.
use mathlib.Core.Path.{◌≡◌, refl, sym, ap, ◌∙◌}
use mathlib.Core.List.{List, [], ◌∷◌, ◌++◌}
use Prim.Native.Nat.{ℕ, zero, suc, ◌+◌, ◌-◌, ◌≤◌}
use native.Mathlib.Numerals.{sub-one}
use native.Mathlib.Omega.{arith}
use lib.ListN.{length}
use Rattle.grammar.specs.Rule.{Item, own, part, Rule}
use Rattle.walk.specs.Walk.{Event, cell, deep, shown, walk, cells}
use Rattle.walk.specs.Room.{RoomLeft, Left, TooDeep, NoRoom, tallied}

-- ---- the room
abbrev pub onward : RoomLeft → (ℕ → RoomLeft) → RoomLeft
onward (Left r) f = f r
onward TooDeep f = TooDeep
onward NoRoom f = NoRoom

tallied_then : (room : ℕ) (xs ys : List Event) → tallied room (xs ++ ys) ≡ onward (tallied room xs) (λ r. tallied r ys)
unfolding tallied
tallied_then room [] ys = refl
tallied_then room (deep ∷ xs) ys = refl
tallied_then zero (cell c ∷ xs) ys = refl
tallied_then (suc room) (cell c ∷ xs) ys = tallied_then room xs ys

pub tallied_deep : (room : ℕ) → TooDeep ≡ tallied room (deep ∷ [])
unfolding tallied
tallied_deep room = refl

pub tallied_full : (room c : ℕ) (es : List Event) → room ≡ 0 → NoRoom ≡ tallied room (cell c ∷ es)
unfolding tallied
tallied_full room c es e = rw e

pub tallied_cell : (room c : ℕ) (es : List Event) → (room ≡ 0 → ⊥) → tallied (room - 1) es ≡ tallied room (cell c ∷ es)
unfolding tallied
tallied_cell zero c es f = absurd (f refl)
tallied_cell (suc room) c es f = rw sub-one

pub tallied_one : (room c : ℕ) → (room ≡ 0 → ⊥) → Left (room - 1) ≡ tallied room (cell c ∷ [])
unfolding tallied
tallied_one room c f = tallied_cell room c [] f

-- ---- what a cell is does not matter
pub tallied_any : (room c c' : ℕ) (es : List Event) → tallied room (cell c ∷ es) ≡ tallied room (cell c' ∷ es)
unfolding tallied
tallied_any zero c c' es = refl
tallied_any (suc room) c c' es = refl

blind : List Event → List Event
blind [] = []
blind (deep ∷ es) = deep ∷ blind es
blind (cell c ∷ es) = cell 0 ∷ blind es

blind_append : (xs ys : List Event) → blind (xs ++ ys) ≡ blind xs ++ blind ys
unfolding blind
blind_append [] ys = refl
blind_append (deep ∷ xs) ys = ap (λ (es : List Event). deep ∷ es) (blind_append xs ys)
blind_append (cell c ∷ xs) ys = ap (λ (es : List Event). cell 0 ∷ es) (blind_append xs ys)

tallied_blind : (room : ℕ) (es : List Event) → tallied room es ≡ tallied room (blind es)
unfolding tallied blind
tallied_blind room [] = refl
tallied_blind room (deep ∷ es) = refl
tallied_blind zero (cell c ∷ es) = refl
tallied_blind (suc room) (cell c ∷ es) = tallied_blind room es

blind_shown : (go : ℕ → ℕ → ℕ → List Event) → ((u v p m : ℕ) → blind (go u p m) ≡ blind (go v p m)) → (u v : ℕ) (is : List Item)
    → blind (shown go u is) ≡ blind (shown go v is)
unfolding shown blind
blind_shown go f u v [] = refl
blind_shown go f u v (own c ∷ is) = refl
blind_shown go f u v (part p m k ∷ is) =
    let same = ap (λ (es : List Event). es ++ blind (shown go 0 is)) (f (u + k) (v + k) p m) in
    blind_append (go (u + k) p m) (shown go 0 is) ∙ (same ∙ sym (blind_append (go (v + k) p m) (shown go 0 is)))

blind_walk : (g : ℕ → Rule) (d u v i n : ℕ) → blind (walk g d u i n) ≡ blind (walk g d v i n)
unfolding walk
blind_walk g zero u v i n = refl
blind_walk g (suc d) u v i n = blind_shown (walk g d) (λ u v p m. blind_walk g d u v p m) u v ((g i).items n)

pub tallied_up : (g : ℕ → Rule) (d u v i n room : ℕ) → tallied room (walk g d u i n) ≡ tallied room (walk g d v i n)
tallied_up g d u v i n room = tallied_blind room (walk g d u i n) ∙ (ap (tallied room) (blind_walk g d u v i n) ∙ sym (tallied_blind room (walk g d v i n)))

-- ---- the cells
pub cells_append : (xs ys : List Event) → cells (xs ++ ys) ≡ cells xs ++ cells ys
unfolding cells
cells_append [] ys = refl
cells_append (cell c ∷ xs) ys = ap (λ (l : List ℕ). c ∷ l) (cells_append xs ys)
cells_append (deep ∷ xs) ys = cells_append xs ys

pub tally_count : (room : ℕ) (es : List Event) {rest : ℕ} → tallied room es ≡ Left rest → length (cells es) + rest ≡ room
unfolding tallied cells
tally_count room [] {rest} e = let q : rest ≡ room = cc in omega arith
tally_count room (deep ∷ es) e = let z : ◌≡◌ {A = ℕ} 0 1 = cc in absurd (omega arith)
tally_count zero (cell c ∷ es) e = let z : ◌≡◌ {A = ℕ} 0 1 = cc in absurd (omega arith)
tally_count (suc room) (cell c ∷ es) e = omega (arith, tally_count room es e)

-- ---- what is left
pub left_within : {room rest : ℕ} (es : List Event) → Left rest ≡ tallied room es → rest ≤ room
left_within {room} es e = omega (arith, tally_count room es (sym e))

-- ---- two parts
module _ (room : ℕ) (xs ys : List Event) where
  -- what stops the first, whatever room is met by the second
  pub two_stops : {a : RoomLeft} → ((f : ℕ → RoomLeft) → onward a f ≡ a) → a ≡ tallied room xs → a ≡ tallied room (xs ++ ys)
  two_stops {a} h e = sym (tallied_then room xs ys ∙ (ap (λ (a : RoomLeft). onward a (λ r. tallied r ys)) (sym e) ∙ h (λ r. tallied r ys)))

  pub two_left : {w : ℕ} → Left w ≡ tallied room xs → {b : RoomLeft} → b ≡ tallied w ys → b ≡ tallied room (xs ++ ys)
  two_left e h = h ∙ sym (tallied_then room xs ys ∙ ap (λ (a : RoomLeft). onward a (λ r. tallied r ys)) (sym e))
