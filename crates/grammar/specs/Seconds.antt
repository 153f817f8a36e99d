-- A dep's seconds in the words of a plan, as the code of dep goes through them.
--   firsts      the word of the first part's size
--   second_size  the word of the size of the second at j; head_size of the first one
--   DepIn       what is known of a dep's first a and of its seconds from place b on
-- Assumes nothing.
use Rattle.grammar.specs.declared.entry.Entry.{Entry}
use Rattle.std.specs.Prelude.{◌≡◌, true, List, ℕ, ◌+◌, ◌^◌, ◌≤◌, ◌<◌, length, get_or, take, drop}
use Rattle.numbers.specs.Dep
use Rattle.grammar.specs.Checks.{count, all_endless}
use Rattle.grammar.specs.kinds.Dep.{counts}
use Rattle.grammar.specs.Plan.{size_word, size_in}

abbrev pub firsts : List Entry → ℕ → ℕ
firsts plan a = size_word plan a

abbrev pub second_size : List Entry → List ℕ → ℕ → ℕ → ℕ
second_size plan p b j = size_word plan (get_or p (b + j) 0)

abbrev pub head_size : List Entry → List ℕ → ℕ → ℕ
head_size plan p b = size_word plan (get_or p b 0)

pub record DepIn (plan : List Entry) (p : List ℕ) (a b : ℕ) : Type 0 where
  pub first : a < length plan
  pub some : 0 < firsts plan a
  pub counted : count (size_in plan a) ≡ firsts plan a
  pub inside : b + firsts plan a ≤ length p
  pub nodes : (j : ℕ) → j < firsts plan a → get_or p (b + j) 0 < length plan
  pub finite : head_size plan p b < 2 ^ 63 → (j : ℕ) → j < firsts plan a → second_size plan p b j < 2 ^ 63
  pub sum : head_size plan p b < 2 ^ 63 → Dep.total (counts (size_in plan) (take (firsts plan a) (drop b p))) < 2 ^ 63
  pub endless : 2 ^ 63 ≤ head_size plan p b → all_endless (size_in plan) (take (firsts plan a) (drop b p)) ≡ true
