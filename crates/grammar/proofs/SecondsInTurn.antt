-- A dep's seconds, gone through one after the other.
--   Turning                       the loop's invariant, and its turns
--   head_in                       the first of the seconds is in the plan
--   nodes_in, finite_in           all of them are, and of finite ones the sizes
--   finite_split, endless_split   a dep's split, of finite or endless seconds
--   second_in, second_is          the second that a visit chooses, and what the visit shows
-- Assumes nothing.
use Rattle.grammar.specs.declared.entry.Entry.{Entry}
use mathlib.Core.Path.{◌≡◌, sym, ap, ◌∙◌}
use mathlib.Core.Bool.{false}
use mathlib.Core.List.{List, [], ◌∷◌}
use Prim.Native.Nat.{ℕ, suc, ◌+◌, ◌-◌, ◌^◌, ◌≤◌, ◌<◌}
use native.Mathlib.Nat.{add-zero}
use native.Mathlib.Numerals.{add-one}
use native.Mathlib.Omega.{arith}
use lib.ListN.{length, get_or, take, drop, drop_of_length-le}
use lib.Seq.{drop-cons}
use borrow.Author.Tests.{lt-ltb, le-ltb}
use Rattle.numbers.specs.Cons.{pair}
use Rattle.numbers.specs.Dep.{endlesses, in_turn}
use Rattle.numbers.specs.Dep
use Rattle.numbers.specs.declared.cons.Pair.{Pair}
use Rattle.numbers.proofs.size.SizeWords.{sized_finite}
use Rattle.grammar.specs.Checks.{all_endless, is_endless}
use Rattle.grammar.specs.Rule.{part}
use Rattle.grammar.specs.Plan.{size_in, size_word}
use Rattle.lists.proofs.Runs.{run_long, run_at, run_fails}
use Rattle.grammar.proofs.Tests.{finite_word}
use Rattle.grammar.specs.kinds.Dep.{chosen, counts, seconds_of}
use Rattle.grammar.specs.Seconds.{firsts, head_size, DepIn}

-- a pair whose first is k more
pub later : ℕ → Pair → Pair
later k q = pair (q.first + k) q.second

later_none : (q : Pair) → later 0 q ≡ q
unfolding later
later_none q = let e : q.first + 0 ≡ q.first = omega arith in rw e

-- what the loop has shown: the seconds below k are passed, and rest is what is left of n
pub record Turning (plan : List Entry) (ws : List ℕ) (n rest k : ℕ) : Type 0 where
  pub le : k ≤ length ws
  pub is : in_turn (counts (size_in plan) ws) n ≡ later k (in_turn (counts (size_in plan) (drop k ws)) rest)

pub turning_none : {plan : List Entry} {ws : List ℕ} {n : ℕ} → Turning plan ws n n 0
turning_none = record { le = omega arith; is = sym (later_none _) }

module _ {plan : List Entry} {ws : List ℕ} {n rest k : ℕ} (f : (j : ℕ) → j < length ws → size_word plan (get_or ws j 0) < 2 ^ 63) (s : Turning plan ws n rest k) where
  module _ (l : k < length ws) where
    here : in_turn (counts (size_in plan) (drop k ws)) rest ≡ in_turn (size_word plan (get_or ws k 0) ∷ counts (size_in plan) (drop (suc k) ws)) rest
    here = rw (drop-cons ws k 0 l, sized_finite (size_word plan (get_or ws k 0)) (f k l))

    pub turning_found : rest < size_word plan (get_or ws k 0) → pair k rest ≡ in_turn (counts (size_in plan) ws) n
    unfolding in_turn later
    turning_found h = let e : 0 + k ≡ k = omega arith in sym (s.is ∙ rw (here, lt-ltb rest (size_word plan (get_or ws k 0)) h, e))

    pub turning_more : size_word plan (get_or ws k 0) ≤ rest → Turning plan ws n (rest - size_word plan (get_or ws k 0)) (k + 1)
    unfolding in_turn later
    turning_more h =
        let q = in_turn (counts (size_in plan) (drop (suc k) ws)) (rest - size_word plan (get_or ws k 0)) in
        let e : q.first + 1 + k ≡ q.first + suc k = omega arith in
        record { le = omega arith; is = s.is ∙ rw (here, le-ltb rest (size_word plan (get_or ws k 0)) h, add-one k, e) }

  pub turning_end : length ws ≤ k → pair (length ws) rest ≡ in_turn (counts (size_in plan) ws) n
  unfolding in_turn later
  turning_end l =
      let e : k ≡ length ws = omega (arith, s.le) in
      let z : 0 + k ≡ length ws = omega arith in
      sym (s.is ∙ rw (drop_of_length-le ws {i = k} l, z))

pub ruleset turnings = (turning_none, turning_found, turning_more, turning_end)

-- ---- the visit of a dep
module _ {plan : List Entry} {p : List ℕ} {a b : ℕ} (d : DepIn plan p a b) where
  pub head_in : get_or p b 0 < length plan
  head_in = rw add-zero at (d.nodes 0 d.some)

  -- the same of the words in a slice
  pub nodes_in : (i : ℕ) → i < length (take (firsts plan a) (drop b p)) → get_or (take (firsts plan a) (drop b p)) i 0 < length plan
  nodes_in i l = let w : i < firsts plan a = omega (arith, run_long p b (firsts plan a) d.inside) in rw (run_at p b (firsts plan a) d.inside i w) (d.nodes i w)

  pub finite_in : head_size plan p b < 2 ^ 63 → (i : ℕ) → i < length (take (firsts plan a) (drop b p))
      → size_word plan (get_or (take (firsts plan a) (drop b p)) i 0) < 2 ^ 63
  finite_in h i l =
      let w : i < firsts plan a = omega (arith, run_long p b (firsts plan a) d.inside) in
      rw (run_at p b (firsts plan a) d.inside i w) (d.finite h i w)

  pub not_endless : head_size plan p b < 2 ^ 63 → false ≡ all_endless (size_in plan) (take (firsts plan a) (drop b p))
  not_endless h = run_fails p b (firsts plan a) d.inside (λ c. is_endless (size_in plan c)) 0 d.some (rw add-zero (finite_word (head_size plan p b) h))

  pub finite_split : head_size plan p b < 2 ^ 63 → (n : ℕ)
      → in_turn (counts (size_in plan) (take (firsts plan a) (drop b p))) n ≡ Dep.split (seconds_of (size_in plan) (take (firsts plan a) (drop b p))) n
  unfolding seconds_of Dep.split
  finite_split h n = rw (← not_endless h)

  pub endless_split : 2 ^ 63 ≤ head_size plan p b → (n : ℕ)
      → Dep.split (endlesses (firsts plan a)) n ≡ Dep.split (seconds_of (size_in plan) (take (firsts plan a) (drop b p))) n
  unfolding seconds_of Dep.split
  endless_split h n = rw (d.endless h, run_long p b (firsts plan a) d.inside)

-- ---- a visit: q is its split, and its first part's number is below that part's size
module _ {plan : List Entry} {p : List ℕ} {a b : ℕ} (d : DepIn plan p a b) (n : ℕ) {q : Pair}
    (e : q ≡ Dep.split (seconds_of (size_in plan) (take (firsts plan a) (drop b p))) n)
    (l : (Dep.split (seconds_of (size_in plan) (take (firsts plan a) (drop b p))) n).first < firsts plan a) where
  first_low : q.first < firsts plan a
  first_low = rw e l

  pub second_in : b + q.first < length p
  second_in = omega (arith, first_low, d.inside)

  pub second_is : chosen a (take (firsts plan a) (drop b p)) (Dep.split (seconds_of (size_in plan) (take (firsts plan a) (drop b p))) n)
      ≡ part a q.first 0 ∷ part (get_or p (b + q.first) 0) q.second 0 ∷ []
  second_is = ap (chosen a (take (firsts plan a) (drop b p))) (sym e) ∙ rw (run_at p b (firsts plan a) d.inside q.first first_low)
