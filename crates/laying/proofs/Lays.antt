-- A writing walk over a buffer that is its own room, put together from those of its parts.
--   lent_long, rest_within   the part of a buffer that is lent on
--   laid_deep, laid_full, laid_none  refused: what the buffer holds is not said
--   laid_one, laid_tag     a cell; a cell and then a walk over what is left
--   both_stop, laid_stops, laid_two   a walk that stops; one walk and then another over what is left
-- Assumes nothing.
use mathlib.Core.Path.{◌≡◌, refl, sym, ap, subst, ◌∙◌}
use mathlib.Core.List.{List, [], ◌∷◌, ◌++◌}
use Prim.Native.Nat.{ℕ, ◌-◌, ◌≤◌, min}
use native.Mathlib.Omega.{arith}
use lib.ListN.{length, take, drop, set, length-append, length-take, length-drop}
use Rattle.walk.specs.Walk.{Event, cell, cells}
use Rattle.lists.specs.Filled.{over}
use Rattle.walk.specs.Laid.{Laid}
use Rattle.walk.specs.Room.{RoomLeft, Left, TooDeep, NoRoom, tallied, most}
use Rattle.lists.proofs.Fills.{part_old, part_rest, then}
use Rattle.laying.specs.declared.rest.Stop.{Stop}
use Rattle.laying.specs.declared.rest.Stop.TheVariants as Stops
use Rattle.laying.specs.Rest.{met}
use Rattle.walk.proofs.Rooms.{tallied_full, tallied_cell, cells_append, tally_count, left_within, two_stops, two_left}

-- ---- what is lent on
pub lent_long : (k : ℕ) (mid : List ℕ) → length (take (length mid - k) (drop k mid)) ≡ length mid - k
lent_long k mid = omega (arith, length-take (length mid - k) (drop k mid), length-drop k mid)

-- what is left of a buffer is no more than it has
pub rest_within : {xs : List Event} {old mid : List ℕ} {rest : ℕ} {a : RoomLeft} → Laid (length old) xs old mid a → Left rest ≡ a → rest ≤ length mid
rest_within {xs} h e = omega (arith, left_within xs (e ∙ h.is), h.long)

-- ---- refused
module _ {room : ℕ} {es : List Event} {old last : List ℕ} (same : length last ≡ length old) where
  pub laid_deep : TooDeep ≡ tallied room es → Laid room es old last TooDeep
  laid_deep e = record { is = e; long = same; holds = λ rest q. let z : ◌≡◌ {A = ℕ} 0 1 = cc in absurd (omega arith) }

  pub laid_full : NoRoom ≡ tallied room es → Laid room es old last NoRoom
  laid_full e = record { is = e; long = same; holds = λ rest q. let z : ◌≡◌ {A = ℕ} 0 1 = cc in absurd (omega arith) }

pub laid_none : (c : ℕ) (es : List Event) {old : List ℕ} → length old ≡ 0 → Laid (length old) (cell c ∷ es) old old NoRoom
laid_none c es {old} e = laid_full refl (tallied_full (length old) c es e)

-- what stops the first walk stops both
module _ (room : ℕ) (xs ys : List Event) where
  pub both_stop : (s : Stop) → met s ≡ tallied room xs → met s ≡ tallied room (xs ++ ys)
  both_stop Stops.TooDeep e = two_stops room xs ys (λ f. refl) e
  both_stop Stops.NoRoom e = two_stops room xs ys (λ f. refl) e

pub laid_stops : {room : ℕ} {xs : List Event} {old mid : List ℕ} {a : RoomLeft} (ys : List Event) → Laid room xs old mid a → (s : Stop) → met s ≡ a
    → Laid room (xs ++ ys) old mid (met s)
laid_stops {room} {xs} ys h Stops.TooDeep e = laid_deep h.long (both_stop room xs ys Stops.TooDeep (e ∙ h.is))
laid_stops {room} {xs} ys h Stops.NoRoom e = laid_full h.long (both_stop room xs ys Stops.NoRoom (e ∙ h.is))

-- ---- one cell
pub laid_one : (c : ℕ) (old : List ℕ) → (length old ≡ 0 → ⊥) → length old ≤ most
    → Laid (length old) (cell c ∷ []) old (set old 0 c) (Left (length (set old 0 c) - 1))
unfolding cells over tallied
laid_one c [] f l = absurd (f refl)
laid_one c (y ∷ old) f l = record {
  is = tallied_cell (length (y ∷ old)) c [] f;
  long = refl;
  holds = λ rest q. refl;
}

-- ---- one walk, and then another over what is left of the buffer
module _ {xs ys : List Event} {old mid lent last : List ℕ} {w k : ℕ} {a b : RoomLeft} (h : Laid (length old) xs old mid a) (l : Left w ≡ a)
    (e : k ≡ length mid - w) (g : Laid (length lent) ys lent last b) (p : lent ≡ take (length mid - k) (drop k mid)) where
  abbrev together : List ℕ
  together = take k mid ++ (last ++ drop (length mid - k) (drop k mid))

  part_is : lent ≡ drop k mid
  part_is = p ∙ part_old k mid

  left_is : length lent ≡ w
  left_is = omega (arith, ap length p, lent_long k mid, h.long, left_within xs (l ∙ h.is))

  two_long : length together ≡ length old
  two_long = omega (
    arith,
    h.long,
    g.long,
    ap length part_is,
    length-drop k mid,
    length-take k mid,
    length-append (take k mid) (last ++ drop (length mid - k) (drop k mid)),
    length-append last (drop (length mid - k) (drop k mid)),
    ap length (part_rest k mid),
  )

  two_holds : {m : ℕ} → b ≡ Left m → together ≡ over (cells (xs ++ ys)) old
  two_holds {m} f =
      let c = tally_count (length old) xs (sym (l ∙ h.is)) in
      let s : k ≡ min (length (cells xs)) (length old) = omega (arith, h.long) in
      rw cells_append (then (record { count = s; holds = h.holds w (sym l) }) (record { count = refl; holds = g.holds m f }) p).holds

  pub laid_two : Laid (length old) (xs ++ ys) old together b
  laid_two = record {
    is = two_left (length old) xs ys (l ∙ h.is) (subst (λ (m : ℕ). b ≡ tallied m ys) left_is g.is);
    long = two_long;
    holds = λ m f. two_holds f;
  }

-- a tag cell, and then a walk
pub laid_tag : (c : ℕ) {es : List Event} (old : List ℕ) → (length old ≡ 0 → ⊥) → length old ≤ most → {lent last : List ℕ} {b : RoomLeft}
    → Laid (length lent) es lent last b → lent ≡ take (length (set old 0 c) - 1) (drop 1 (set old 0 c))
    → Laid (length old) (cell c ∷ es) old (take 1 (set old 0 c) ++ (last ++ drop (length (set old 0 c) - 1) (drop 1 (set old 0 c)))) b
laid_tag c old f l g p = let h = laid_one c old f l in laid_two {w = length (set old 0 c) - 1} {k = 1} h refl (omega (arith, h.long)) g p
