-- A test of every word of a list, and of a run of `count` words from `at` on.
--   every_at, every_mem   by a place, by a member
--   run_long, run_at      the run's words
--   every_run, run_fails   the test of a run, by places
-- Assumes nothing.
use mathlib.Core.Path.{◌≡◌, refl, sym, ◌∙◌}
use mathlib.Core.Bool.{Bool, true, false, false≢true}
use mathlib.Core.Logic.{⊎_elim}
use mathlib.Core.List.Memᴰ
use mathlib.Core.List.{List, [], ◌∷◌, Memᴰ}
use Prim.Native.Nat.{ℕ, zero, suc, ◌+◌, ◌≤◌, ◌<◌}
use native.Mathlib.Nat.{not-suc-le-zero, le_of_suc-le-suc}
use native.Mathlib.Omega.{arith}
use lib.ListN.{length, get_or, take, drop, length-take, length-drop}
use lib.Seq.{get_or-take, get_or-drop}
use Rattle.numbers.proofs.Tests.{and_left, and_right}
use Rattle.lists.specs.Lists.{every}

-- every word of a list, by its places
pub every_at : (test : ℕ → Bool) (xs : List ℕ) (i : ℕ) → i < length xs → every test xs ≡ true → test (get_or xs i 0) ≡ true
unfolding every
every_at test [] i l e = absurd (not-suc-le-zero l)
every_at test (x ∷ xs) zero l e = and_left (test x) (every test xs) e
every_at test (x ∷ xs) (suc i) l e = every_at test xs i (le_of_suc-le-suc l) (and_right (test x) (every test xs) e)

module _ (p : List ℕ) (at count : ℕ) (in_p : at + count ≤ length p) where
  pub run_long : length (take count (drop at p)) ≡ count
  run_long = simp (length-take, length-drop) (omega arith)

  pub run_at : (i : ℕ) → i < count → get_or (take count (drop at p)) i 0 ≡ get_or p (at + i) 0
  run_at i l = get_or-take count (drop at p) i 0 l ∙ get_or-drop at p i 0

  module _ (test : ℕ → Bool) where
    pub every_run : every test (take count (drop at p)) ≡ true → (i : ℕ) → i < count → test (get_or p (at + i) 0) ≡ true
    every_run e i l = rw (run_at i l) at (every_at test (take count (drop at p)) i (omega (arith, run_long)) e)

    pub run_fails : (i : ℕ) → i < count → test (get_or p (at + i) 0) ≡ false → false ≡ every test (take count (drop at p))
    run_fails i l u = by (every test (take count (drop at p))) refl
      where
        by : (q : Bool) → every test (take count (drop at p)) ≡ q → false ≡ q
        by true e = absurd (false≢true (sym u ∙ every_run e i l))
        by false e = refl

pub every_mem : (test : ℕ → Bool) (m : ℕ) (xs : List ℕ) → every test xs ≡ true → Memᴰ m xs → test m ≡ true
unfolding every
every_mem test m [] e i = absurd (Memᴰ.not-nil i)
every_mem test m (x ∷ xs) e i =
    ⊎_elim (λ q. rw q (and_left (test x) (every test xs) e)) (λ j. every_mem test m xs (and_right (test x) (every test xs) e) j) (Memᴰ.cases_cons i)
