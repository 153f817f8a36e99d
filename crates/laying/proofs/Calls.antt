-- What a visit's calls on its parts ask: the depth left falls, and a part may be visited. Twice the depth left is the
-- measure of a walk, and one more that of `tagged` and `both` beside it.
--   to_tagged, to_both  of either walk that writes
--   tally_part; lay_part, lay_shift   of each on a part itself
--   tally_by, tally_any, tally_up, laid_by   what a visit hands back is what its shape does
-- Assumes nothing.
use mathlib.Core.Path.{◌≡◌, sym, ap, subst, ◌∙◌}
use mathlib.Core.List.{List, ◌∷◌}
use Prim.Native.Nat.{ℕ, ◌+◌, ◌-◌, ◌*◌, ◌^◌, ◌≤◌, ◌<◌}
use native.Mathlib.Omega.{arith}
use Rattle.grammar.specs.declared.entry.Entry.{Entry}
use Rattle.grammar.specs.Rule.{Rule}
use Rattle.walk.specs.Walk.{Event, cell, walk}
use Rattle.walk.specs.Laid.{Laid}
use Rattle.walk.specs.Room.{RoomLeft, tallied, most}
use Rattle.walk.specs.Plan.{Visits, Raised}
use Rattle.walk.proofs.Rooms.{tallied_any, tallied_up}
use Rattle.walk.proofs.Visit.{Next}
use Rattle.walk.proofs.Nodes.{raised_zero}

pub tally_by : (room : ℕ) {es es' : List Event} {b : RoomLeft} → es ≡ es' → b ≡ tallied room es' → b ≡ tallied room es
tally_by room e h = h ∙ sym (ap (tallied room) e)

-- whatever the cell is, and whatever is added to a part's
pub tally_any : (room : ℕ) {c : ℕ} {es xs : List Event} {b : RoomLeft} → es ≡ cell c ∷ xs → b ≡ tallied room (cell 0 ∷ xs) → b ≡ tallied room es
tally_any room {c} {xs = xs} e h = tally_by room e (h ∙ tallied_any room 0 c xs)

pub tally_up : (room : ℕ) (g : ℕ → Rule) (d u i n : ℕ) {es : List Event} {b : RoomLeft} → es ≡ walk g d u i n → b ≡ tallied room (walk g d 0 i n)
    → b ≡ tallied room es
tally_up room g d u i n e h = tally_by room e (h ∙ tallied_up g d 0 u i n room)

pub laid_by : {room : ℕ} {es es' : List Event} {old last : List ℕ} {b : RoomLeft} → es ≡ es' → Laid room es' old last b → Laid room es old last b
laid_by {room} {old = old} {last} {b} e h = subst (λ (xs : List Event). Laid room xs old last b) (sym e) h

module _ {plan : List Entry} {p : List ℕ} {n left t room : ℕ} (e : 2 * left ≡ t) (f : left ≡ 0 → ⊥) (h : (n + left ≤ 2 ^ 62 + 200) × (left ≤ 200) × (room ≤ most)) where
  pub tally_part : {q m : ℕ} → Next plan p n q m
      → (2 * (left - 1) < t) × (Visits plan p q m × ((m + (left - 1) ≤ 2 ^ 62 + 200) × (left - 1 ≤ 200) × (room ≤ most)))
  tally_part k = (omega arith, (k.visits, (omega (arith, k.near, h.0), omega (arith, h.1), h.2)))

  pub to_tagged : {q m : ℕ} → Next plan p n q m
      → (2 * (left - 1) + 1 < t) × (Visits plan p q m × ((m + (left - 1) ≤ 2 ^ 62 + 200) × (left - 1 ≤ 200) × (room ≤ most)))
  to_tagged k = (omega arith, (k.visits, (omega (arith, k.near, h.0), omega (arith, h.1), h.2)))

  pub to_both : {a x b y : ℕ} → Next plan p n a x → Next plan p n b y
      → (2 * (left - 1) + 1 < t)
      × ((Visits plan p a x × Visits plan p b y) × ((x + (left - 1) ≤ 2 ^ 62 + 200) × (y + (left - 1) ≤ 2 ^ 62 + 200) × (left - 1 ≤ 200) × (room ≤ most)))
  to_both k o = (omega arith, ((k.visits, o.visits), (omega (arith, k.near, h.0), omega (arith, o.near, h.0), omega (arith, h.1), h.2)))

module _ {plan : List Entry} {p : List ℕ} {n left t : ℕ} (up : ℕ) {long : ℕ} (e : 2 * left ≡ t) (f : left ≡ 0 → ⊥)
    (h : (n + left ≤ 2 ^ 62 + 200) × (up + left * 2 ^ 32 ≤ 200 * 2 ^ 32) × (left ≤ 200) × (long ≤ most)) where
  pub lay_part : {q m : ℕ} → Next plan p n q m
      → (2 * (left - 1) < t)
      × ((Visits plan p q m × Raised plan q 0)
      × ((m + (left - 1) ≤ 2 ^ 62 + 200) × (0 + (left - 1) * 2 ^ 32 ≤ 200 * 2 ^ 32) × (left - 1 ≤ 200) × (long ≤ most)))
  lay_part {q} k = (omega arith, ((k.visits, raised_zero plan q), (omega (arith, k.near, h.0), omega (arith, h.2), omega (arith, h.2), h.3)))

  -- under a shift by b
  pub lay_shift : {q m b : ℕ} → Next plan p n q m → Raised plan q (up + b) → b ≤ 2 ^ 32
      → (2 * (left - 1) < t)
      × ((Visits plan p q m × Raised plan q (up + b))
      × ((m + (left - 1) ≤ 2 ^ 62 + 200) × (up + b + (left - 1) * 2 ^ 32 ≤ 200 * 2 ^ 32) × (left - 1 ≤ 200) × (long ≤ most)))
  lay_shift k s l = (omega arith, ((k.visits, s), (omega (arith, k.near, h.0), omega (arith, h.1), omega (arith, h.2), h.3)))
