-- What a branch of the code shows of the tests in a row.
--   tests                    one list for `search`
--   is_endless_lem               what the test of a size says
--   endless_word, finite_word   what a word says of its size; endless_test, one_test, below_test, few_test, few_count   as the code tests it
--   rows                     what a row computes with
-- Assumes nothing.
use mathlib.Core.Path.{◌≡◌, refl, sym}
use mathlib.Core.Bool.{Bool, true, false, ◌&&◌, and-false, false≢true}
use Prim.Native.Nat.{ℕ, ◌+◌, ◌-◌, ◌^◌, ◌≤◌, ◌<◌}
use native.Mathlib.Omega.{arith}
use lib.Dec.{leb, ltb, eqb}
use borrow.Author.Tests.{leb-true, ltb-true, lt-ltb, le-ltb, le-leb, lt-leb, eq-eqb, ne_eqb}
use Rattle.numbers.specs.Size.{Size, finite, endless, below, size_of}
use Rattle.numbers.proofs.size.SizeWords.{by_size, sized_finite, sized_endless}
use Rattle.grammar.specs.Checks.{is_endless, is_one, few, count, row}
use Rattle.grammar.specs.Plan.{coded, weighed}

-- a sum and its bound, tested by a difference
pub room : (a b l : ℕ) → b ≤ l → a ≤ l - b → leb (a + b) l ≡ true
room a b l h u = le-leb (a + b) l (omega arith)

pub no_room : (a b l : ℕ) → l < b → leb (a + b) l ≡ false
no_room a b l h = lt-leb (a + b) l (omega arith)

pub no_place : (a b l : ℕ) → l - b < a → leb (a + b) l ≡ false
no_place a b l h = lt-leb (a + b) l (omega arith)

pub ruleset tests = (lt-ltb, le-ltb, le-leb, lt-leb, eq-eqb, ne_eqb, room, no_room, no_place)

pub is_endless_lem : (s : Size) → is_endless s ≡ true → s ≡ endless
is_endless_lem (finite s) e = absurd (false≢true e)
is_endless_lem endless e = refl

pub endless_word : (w : ℕ) → 2 ^ 63 ≤ w → is_endless (size_of w) ≡ true
endless_word w h = rw (sized_endless w h)

pub finite_word : (w : ℕ) → w < 2 ^ 63 → is_endless (size_of w) ≡ false
finite_word w h = rw (sized_finite w h)

-- the same, as the code tests the word
pub endless_test : (w : ℕ) → is_endless (size_of w) ≡ leb (2 ^ 63) w
endless_test w = by_size (λ z. is_endless z ≡ leb (2 ^ 63) w) w (λ l. sym (lt-leb (2 ^ 63) w l)) (λ l. sym (le-leb (2 ^ 63) w l))

pub one_test : (w : ℕ) → is_one (size_of w) ≡ eqb w 1
one_test w = by_size (λ z. is_one z ≡ eqb w 1) w (λ l. refl) (λ l. sym (ne_eqb w 1 (λ e. absurd (omega arith))))

pub below_test : (b w : ℕ) → (below b (size_of w) && ltb b (2 ^ 62)) ≡ (ltb b w && ltb b (2 ^ 62))
below_test b w = by_size (λ z. (below b z && ltb b (2 ^ 62)) ≡ (ltb b w && ltb b (2 ^ 62))) w (λ l. refl) (λ l. by (ltb b (2 ^ 62)) refl l)
  where
    by : (q : Bool) → ltb b (2 ^ 62) ≡ q → 2 ^ 63 ≤ w → q ≡ (ltb b w && q)
    by true e l = let h : b < w = omega (arith, ltb-true b (2 ^ 62) e) in rw (lt-ltb b w h)
    by false e l = sym (and-false (ltb b w))

pub few_test : (w : ℕ) → few (size_of w) ≡ leb w 256
few_test w = by_size (λ z. few z ≡ leb w 256) w (λ l. refl) (λ l. sym (lt-leb w 256 (omega arith)))

pub few_count : (w : ℕ) → leb w 256 ≡ true → count (size_of w) ≡ w
few_count w e = by_size (λ z. count z ≡ w) w (λ l. refl) (λ l. absurd (omega (arith, leb-true w 256 e)))

pub ruleset size_tests = (endless_test, one_test, below_test, few_test, few_count)

-- ---- what a row computes with, opened by one name
unfoldable pub rows : Unit {0}
unfolding weighed coded row
rows = tt
