-- Sizes, and their words.
--   below_is              the test and the statement agree
--   by_size               what holds of the size of a word, whichever it is
--   sized_finite, sized_endless    what size a word is
-- Assumes nothing.
use mathlib.Core.Path.{◌≡◌, refl}
use mathlib.Core.Bool.{true}
use Prim.Native.Nat.{ℕ, ◌^◌, ◌≤◌, ◌<◌}
use lib.Dec.{ltb}
use borrow.Author.Tests.{lt-ltb, le-ltb, ltb-true, ltb-false}
use Rattle.numbers.specs.Size.{Size, finite, endless, Below, below, size_of}
use Rattle.numbers.proofs.Tests.{pick_by}

pub below_is : (n : ℕ) (s : Size) → (Below n s → below n s ≡ true) × (below n s ≡ true → Below n s)
below_is n (finite s) = (lt-ltb n s, ltb-true n s)
below_is n endless = ((λ h. refl), (λ e. tt))

-- ---- a size in one word
pub sized_finite : (w : ℕ) → w < 2 ^ 63 → size_of w ≡ finite w
unfolding size_of
sized_finite w h = rw (lt-ltb w (2 ^ 63) h)

pub sized_endless : (w : ℕ) → 2 ^ 63 ≤ w → size_of w ≡ endless
unfolding size_of
sized_endless w h = rw (le-ltb w (2 ^ 63) h)

pub by_size : (P : Size → Type 0) (w : ℕ) → (w < 2 ^ 63 → P (finite w)) → (2 ^ 63 ≤ w → P endless) → P (size_of w)
unfolding size_of
by_size P w f g = pick_by P (ltb w (2 ^ 63)) (λ e. f (ltb-true w (2 ^ 63) e)) (λ e. g (ltb-false w (2 ^ 63) e))
