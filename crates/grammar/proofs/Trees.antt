-- How a rule's law is shown, piece by piece of its tree.
--   spell_..   a path to a number, built from its end
--   read_pick, names_pick    what holds of every path, and of every part, where the tree goes by a test
-- Assumes nothing.
use mathlib.Core.Path.{◌≡◌, refl, ap}
use mathlib.Core.Bool.{Bool, true, false}
use mathlib.Core.List.{List, [], ◌∷◌}
use Prim.Native.Nat.{ℕ}
use Rattle.numbers.specs.Pick.{pick}
use Rattle.numbers.specs.Size.{Size, Below}
use Rattle.grammar.specs.Rule.{Item, own, part, Tree, done, takes, reads}
use Rattle.grammar.specs.Law.{Path, end_of, items_of, Spells, Names}

module _ (z : ℕ → Size) where
  pub spell_done : (n : ℕ) → Spells z (done n) [] n
  spell_done n = record { path = tt; passes = refl; ends = refl }

  pub spell_takes : (f : ℕ → Tree) (c : ℕ) {is : List Item} {n : ℕ} → Spells z (f c) is n → Spells z (takes f) (own c ∷ is) n
  spell_takes f c s = record { path = (c, s.path); passes = ap (λ (l : List Item). own c ∷ l) s.passes; ends = s.ends }

  pub spell_reads : (p k : ℕ) (f : ℕ → Tree) (m : ℕ) {is : List Item} {n : ℕ} → Below m (z p) → Spells z (f m) is n → Spells z (reads p k f) (part p m k ∷ is) n
  spell_reads p k f m h s = record { path = (m, h, s.path); passes = ap (λ (l : List Item). part p m k ∷ l) s.passes; ends = s.ends }

  pub spell_left : (b : Bool) (t u : Tree) {is : List Item} {n : ℕ} → b ≡ true → Spells z t is n → Spells z (pick b t u) is n
  spell_left b t u e s = rw e s

  pub spell_right : (b : Bool) (t u : Tree) {is : List Item} {n : ℕ} → b ≡ false → Spells z u is n → Spells z (pick b t u) is n
  spell_right b t u e s = rw e s

  -- P n is: of a path that passes `is` to n
  pub read_pick : (P : ℕ → List Item → Type 0) (b : Bool) (t u : Tree) → (b ≡ true → (w : Path z t) → P (end_of z t w) (items_of z t w))
      → (b ≡ false → (w : Path z u) → P (end_of z u w) (items_of z u w)) → (w : Path z (pick b t u)) → P (end_of z (pick b t u) w) (items_of z (pick b t u) w)
  read_pick P true t u f g w = f refl w
  read_pick P false t u f g w = g refl w

  pub names_pick : (xs : List ℕ) (b : Bool) (t u : Tree) → Names z xs t → Names z xs u → Names z xs (pick b t u)
  names_pick xs true t u f g = f
  names_pick xs false t u f g = g
