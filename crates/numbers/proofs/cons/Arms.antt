-- How the code decides the four cases of cons by the words of two sizes, of any F that goes by those cases.
--   first_fast    i < j, and i is finite
--   second_fast   j <= i, and j is finite
--   both_endless  neither
-- Assumes nothing.
use mathlib.Core.Path.{◌≡◌}
use Prim.Native.Nat.{ℕ, ◌^◌, ◌≤◌, ◌<◌}
use Rattle.numbers.specs.Size.{Size, finite, endless, size_of}
use Rattle.numbers.proofs.size.SizeWords.{by_size, sized_finite, sized_endless}

module _ {A : Type 0} (F : Size → Size → A) (i j : ℕ) (a : A) where
  pub first_fast : i < 2 ^ 63 → a ≡ F (finite i) endless → a ≡ F (finite i) (finite j) → a ≡ F (size_of i) (size_of j)
  first_fast h p q = rw (sized_finite i h) (by_size (λ (t : Size). a ≡ F (finite i) t) j (λ v. q) (λ v. p))

  pub second_fast : j < 2 ^ 63 → a ≡ F endless (finite j) → a ≡ F (finite i) (finite j) → a ≡ F (size_of i) (size_of j)
  second_fast h p q = rw (sized_finite j h) (by_size (λ (s : Size). a ≡ F s (finite j)) i (λ v. q) (λ v. p))

  pub both_endless : 2 ^ 63 ≤ i → 2 ^ 63 ≤ j → a ≡ F endless endless → a ≡ F (size_of i) (size_of j)
  both_endless h l p = rw (sized_endless i h, sized_endless j l) p
