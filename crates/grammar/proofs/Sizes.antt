-- The sizes with one more.
--   at_end, at_other   the one at the end, and the others
-- Assumes nothing.
use mathlib.Core.Path.{◌≡◌, refl, ◌∙◌}
use mathlib.Core.List.{List, [], ◌∷◌, ◌++◌}
use Prim.Native.Nat.{ℕ, zero, suc}
use lib.Dec.{eqb, eqb-suc-zero, eqb-zero-suc, eqb-suc-suc}
use lib.ListN.{length}
use borrow.Author.Tests.{eq-eqb, ne_eqb}
use Rattle.numbers.specs.Pick.{pick}
use Rattle.numbers.specs.Size.{Size}
use Rattle.grammar.specs.Sizes.{size_at}

appended : (zs : List Size) (s : Size) (k : ℕ) → size_at (zs ++ (s ∷ [])) k ≡ pick (eqb k (length zs)) s (size_at zs k)
appended [] s zero = refl
appended [] s (suc k) = rw (eqb-suc-zero k)
appended (y ∷ zs) s zero = rw (eqb-zero-suc (length zs))
appended (y ∷ zs) s (suc k) = rw (eqb-suc-suc k (length zs)) (appended zs s k)

pub at_end : (zs : List Size) (s : Size) (n : ℕ) → n ≡ length zs → size_at (zs ++ (s ∷ [])) n ≡ s
at_end zs s n h = appended zs s n ∙ rw (eq-eqb n (length zs) h)

pub at_other : (zs : List Size) (s : Size) (k : ℕ) → (k ≡ length zs → ⊥) → size_at (zs ++ (s ∷ [])) k ≡ size_at zs k
at_other zs s k f = appended zs s k ∙ rw (ne_eqb k (length zs) f)
