-- Ranks of the nodes of a graph of which a test decides the paths.
--   rank          how many nodes a node leads to: it falls at each step, where there is no cycle
--   held          how many marked nodes a node leads to or is: it never rises, and falls at each step from a marked node that is on no cycle
-- Assumes nothing.
use mathlib.Core.Path.{◌≡◌, refl}
use mathlib.Core.Bool.{Bool, true, false, ◌&&◌, ◌||◌}
use mathlib.Core.Logic.{⊎_elim}
use mathlib.Mathlib.Data.Bool.Basic.{Bool-eq-false}
use Prim.Native.Nat.{ℕ, ◌≤◌, ◌<◌}
use lib.Dec.{eqb}
use borrow.Author.Tests.{eqb-true, eq-eqb}
use Rattle.graph.specs.Paths.{Path, Decides}
use Rattle.graph.specs.Paths.Path.{one, more}
use Rattle.numbers.proofs.Tests.{and_left, and_right, or_right, or_true}
use Rattle.cases.proofs.Counts.{many, many_le, many_less}

-- ---- tests
decided : {P : Type 0} (r : Bool) → Decides P r → P → r ≡ true
decided true d h = refl
decided false d h = absurd (d.no refl h)

undecided : {P : Type 0} (r : Bool) → Decides P r → (P → ⊥) → r ≡ false
undecided true d h = absurd (h (d.yes refl))
undecided false d h = refl

module _ (E : ℕ → ℕ → Type 0) (test : ℕ → ℕ → Bool) (decides : (a b : ℕ) → Decides (Path E a b) (test a b)) (size : ℕ) (inside : (a b : ℕ) → E a b → b < size)
  where
    onward : (i j : ℕ) → E i j → (k : ℕ) → test j k ≡ true → test i k ≡ true
    onward i j e k h = decided (test i k) (decides i k) (more e ((decides j k).yes h))

    -- ---- all nodes
    pub rank : ℕ → ℕ
    rank i = many (test i) size

    pub rank_falls : (i j : ℕ) → E i j → (Path E j j → ⊥) → rank j < rank i
    unfolding rank
    rank_falls i j e none =
        many_less (test j) (test i) (onward i j e) j (undecided (test j j) (decides j j) none) (decided (test i j) (decides i j) (one e)) size (inside i j e)

    -- ---- marked nodes
    module _ (mark : ℕ → Bool) where
      holds : ℕ → ℕ → Bool
      holds i k = mark k && (eqb k i || test i k)

      pub held : ℕ → ℕ
      held i = many (holds i) size

      held_on : (i j : ℕ) → E i j → (k : ℕ) → holds j k ≡ true → test i k ≡ true
      unfolding holds
      held_on i j e k h =
          ⊎_elim (λ s. rw (eqb-true k j s) (decided (test i j) (decides i j) (one e))) (onward i j e k)
          (or_true (eqb k j) (test j k) (and_right (mark k) (eqb k j || test j k) h))

      held_also : (i j : ℕ) → E i j → (k : ℕ) → holds j k ≡ true → holds i k ≡ true
      unfolding holds
      held_also i j e k h = rw (and_left (mark k) (eqb k j || test j k) h, or_right (eqb k i) (test i k) (held_on i j e k h))

      pub held_le : (i j : ℕ) → E i j → held j ≤ held i
      unfolding held
      held_le i j e = many_le (holds j) (holds i) (held_also i j e) size

      held_self : (i : ℕ) → mark i ≡ true → holds i i ≡ true
      unfolding holds
      held_self i m = rw (m, eq-eqb i i refl)

      pub held_falls : (i j : ℕ) → E i j → mark i ≡ true → (Path E i i → ⊥) → i < size → held j < held i
      unfolding held
      held_falls i j e m none l =
          many_less (holds j) (holds i) (held_also i j e) i (Bool-eq-false (λ h. none ((decides i i).yes (held_on i j e i h)))) (held_self i m) size l
