-- Runs of the pool that a dep names.
--   lower_run, finite_run   the tests of a dep's seconds, by the facts that the code has
-- Assumes nothing.
use Rattle.grammar.specs.declared.entry.Entry.{Entry}
use mathlib.Core.Path.{◌≡◌, sym, ◌∙◌}
use mathlib.Core.Bool.{Bool, true, not, false≢true}
use mathlib.Core.List.{List}
use Prim.Native.Nat.{ℕ, ◌+◌, ◌^◌, ◌≤◌, ◌<◌}
use borrow.Author.Tests.{ltb-true}
use lib.Dec.{ltb}
use lib.ListN.{length, get_or, take, drop}
use Rattle.numbers.specs.Size.{size_of}
use Rattle.numbers.proofs.size.SizeWords.{by_size}
use Rattle.grammar.specs.Checks.{is_endless, all_lower, all_finite}
use Rattle.grammar.specs.Plan.{size_in, size_word}
use Rattle.lists.proofs.Runs.{every_run}

-- ---- the tests of a dep's seconds, by the facts that the code has
module _ (n : ℕ) (p : List ℕ) (at count : ℕ) (in_p : at + count ≤ length p) where
  pub lower_run : all_lower n (take count (drop at p)) ≡ true → (i : ℕ) → i < count → get_or p (at + i) 0 < n
  lower_run e i l = ltb-true (get_or p (at + i) 0) n (every_run p at count in_p (λ c. ltb c n) e i l)

-- the size word of the node that word j names
abbrev pub word_at : List Entry → List ℕ → ℕ → ℕ → ℕ
word_at plan p at j = size_word plan (get_or p (at + j) 0)

module _ (plan : List Entry) (p : List ℕ) (at count : ℕ) (in_p : at + count ≤ length p) where
  finite_says : (w : ℕ) → not (is_endless (size_of w)) ≡ true → w < 2 ^ 63
  finite_says w = by_size (λ s. not (is_endless s) ≡ true → w < 2 ^ 63) w (λ l e. l) (λ l e. absurd (false≢true e))

  pub finite_run : {r : Bool} → r ≡ all_finite (size_in plan) (take count (drop at p)) → r ≡ true → (i : ℕ) → i < count → word_at plan p at i < 2 ^ 63
  finite_run e f i l = finite_says (word_at plan p at i) (every_run p at count in_p (λ c. not (is_endless (size_in plan c))) (sym e ∙ f) i l)
