-- `numbers::or::split` is the rule of or. Endless is above every half of a word, so its test always holds.
-- Assumes nothing.
use mathlib.Core.Path.{◌≡◌, refl}
use Prim.Native.Nat.{ℕ, ◌*◌, ◌-◌, ◌/◌, ◌^◌, ◌≤◌, ◌<◌}
use native.Mathlib.Omega.{arith}
use borrow.Author.Tests.{lt-ltb, le-ltb, le-leb, lt-leb}
use Rattle.numbers.specs.Size.{Size, finite, endless, size_of}
use Rattle.numbers.specs.Or.{alternate, split}
use Rattle.numbers.specs.declared.or.Part.TheVariants.{First, Second}
use Rattle.numbers.proofs.size.SizeWords.{by_size}
use Rattle.numbers.proofs.or.split.Goals as goal

module _ (s t n : ℕ) (w : n < 2 ^ 64) where
  module _ (l : s ≤ t) where
    first_lasts : n / 2 < s → alternate n ≡ split (size_of s) (size_of t) n
    unfolding split
    first_lasts h =
        by_size (λ (a : Size). alternate n ≡ split a (size_of t) n) s
        (λ u. by_size (λ (b : Size). alternate n ≡ split (finite s) b n) t
        (λ v. rw (le-leb s t l, lt-ltb n (2 * s) (omega arith)))
        (λ v. rw (lt-ltb n (2 * s) (omega arith))))
        (λ u. by_size (λ (b : Size). alternate n ≡ split endless b n) t (λ v. absurd (omega arith)) (λ v. refl))

    first_ends : s ≤ n / 2 → Second (n - s) ≡ split (size_of s) (size_of t) n
    unfolding split
    first_ends h =
        by_size (λ (a : Size). Second (n - s) ≡ split a (size_of t) n) s
        (λ u. by_size (λ (b : Size). Second (n - s) ≡ split (finite s) b n) t
        (λ v. rw (le-leb s t l, le-ltb n (2 * s) (omega arith)))
        (λ v. rw (le-ltb n (2 * s) (omega arith))))
        (λ u. absurd (omega arith))

  module _ (l : t < s) where
    second_lasts : n / 2 < t → alternate n ≡ split (size_of s) (size_of t) n
    unfolding split
    second_lasts h =
        by_size (λ (b : Size). alternate n ≡ split (size_of s) b n) t
        (λ v. by_size (λ (a : Size). alternate n ≡ split a (finite t) n) s
        (λ u. rw (lt-leb s t l, lt-ltb n (2 * t) (omega arith)))
        (λ u. rw (lt-ltb n (2 * t) (omega arith))))
        (λ v. by_size (λ (a : Size). alternate n ≡ split a endless n) s (λ u. absurd (omega arith)) (λ u. refl))

    second_ends : t ≤ n / 2 → First (n - t) ≡ split (size_of s) (size_of t) n
    unfolding split
    second_ends h =
        by_size (λ (b : Size). First (n - t) ≡ split (size_of s) b n) t
        (λ v. by_size (λ (a : Size). First (n - t) ≡ split a (finite t) n) s
        (λ u. rw (lt-leb s t l, le-ltb n (2 * t) (omega arith)))
        (λ u. rw (le-ltb n (2 * t) (omega arith))))
        (λ v. absurd (omega arith))

pub returns-then-n-s : goal.returns-then-n-s
returns-then-n-s c =
    search (first_lasts, c.alternating.ensures)

pub returns-then-s-t : goal.returns-then-s-t
returns-then-s-t c =
    search first_ends

pub returns-then-n-t : goal.returns-then-n-t
returns-then-n-t c =
    search (second_lasts, c.alternating-then-n-t.ensures)

pub returns : goal.returns
returns c =
    search second_ends
