-- What the steps of a node rest on, whatever its kind.
--   under_mem   a member of a list of nodes below count
--   few_word    a size that is few is its word
-- Assumes nothing.
use mathlib.Core.Path.{◌≡◌, refl}
use mathlib.Core.Bool.{true, false≢true}
use mathlib.Core.Logic.{⊎_elim}
use mathlib.Core.List.Memᴰ
use mathlib.Core.List.{List, [], ◌∷◌, Memᴰ}
use Prim.Native.Nat.{ℕ, ◌<◌}
use Rattle.numbers.specs.Size.{size_of}
use Rattle.numbers.proofs.size.SizeWords.{by_size}
use Rattle.grammar.specs.Checks.{few, count}
use Rattle.grammar.specs.Law.{Under}

pub under_mem : (count : ℕ) (xs : List ℕ) → Under count xs → (p : ℕ) → Memᴰ p xs → p < count
under_mem count [] u p m = absurd (Memᴰ.not-nil m)
under_mem count (x ∷ xs) u p m = ⊎_elim (λ e. rw e u.0) (λ t. under_mem count xs u.1 p t) (Memᴰ.cases_cons m)

pub few_word : (w : ℕ) → few (size_of w) ≡ true → count (size_of w) ≡ w
few_word w = by_size (λ s. few s ≡ true → count s ≡ w) w (λ l h. refl) (λ l h. absurd (false≢true h))
