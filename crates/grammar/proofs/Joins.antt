-- The sum of a dep's seconds before the one that is read, and the dep's join.
--   Summing                       the loop's invariant, and its turns
--   before_.., few_sum            what the code needs of those before x, and of their sum
--   finite_join, endless_join     what a dep's join is, by finite or endless seconds
-- Assumes nothing.
use Rattle.grammar.specs.declared.entry.Entry.{Entry}
use mathlib.Core.Path.{◌≡◌, refl, sym, ◌∙◌}
use mathlib.Core.List.{List, [], ◌∷◌}
use Prim.Native.Nat.{ℕ, zero, suc, ◌+◌, ◌^◌, ◌≤◌, ◌<◌}
use native.Mathlib.Nat.{add-zero}
use native.Mathlib.Numerals.{add-one}
use native.Mathlib.Omega.{arith}
use lib.ListN.{length, get_or, take, drop, drop_of_length-le}
use lib.Seq.{drop-cons, take-take}
use Rattle.numbers.specs.Size.{Size}
use Rattle.numbers.specs.Dep.{endlesses, total}
use Rattle.numbers.specs.Dep
use Rattle.numbers.proofs.size.SizeWords.{sized_finite}
use Rattle.grammar.specs.Plan.{size_in, size_word}
use Rattle.lists.proofs.Runs.{run_long, run_at}
use Rattle.grammar.proofs.SecondsInTurn.{not_endless}
use Rattle.grammar.specs.kinds.Dep.{counts, seconds_of}
use Rattle.grammar.specs.Seconds.{firsts, head_size, DepIn}

-- what the loop has shown: sum is that of the seconds below j
pub record Summing (plan : List Entry) (ws : List ℕ) (sum j : ℕ) : Type 0 where
  pub le : j ≤ length ws
  pub is : total (counts (size_in plan) ws) ≡ sum + total (counts (size_in plan) (drop j ws))

pub summing_none : {plan : List Entry} {ws : List ℕ} → Summing plan ws 0 0
summing_none = record { le = omega arith; is = omega arith }

module _ {plan : List Entry} {ws : List ℕ} {sum j : ℕ} (f : (i : ℕ) → i < length ws → size_word plan (get_or ws i 0) < 2 ^ 63) (s : Summing plan ws sum j) where
  module _ (l : j < length ws) where
    here : total (counts (size_in plan) (drop j ws)) ≡ size_word plan (get_or ws j 0) + total (counts (size_in plan) (drop (suc j) ws))
    unfolding total
    here = rw (drop-cons ws j 0 l, sized_finite (size_word plan (get_or ws j 0)) (f j l))

    pub summing_more : Summing plan ws (sum + size_word plan (get_or ws j 0)) (j + 1)
    summing_more = record { le = omega arith; is = rw (add-one j) (omega (arith, s.is, here)) }

    pub summing_fits : total (counts (size_in plan) ws) < 2 ^ 63 → sum + size_word plan (get_or ws j 0) < 2 ^ 63
    summing_fits h = omega (arith, s.is, here)

  pub summing_end : length ws ≤ j → sum ≡ total (counts (size_in plan) ws)
  unfolding total
  summing_end l = sym (s.is ∙ rw (drop_of_length-le ws {i = j} l, add-zero sum))

pub ruleset summings = (summing_none, summing_more, summing_fits, summing_end)

-- ---- the seconds before x
counts_take : (z : ℕ → Size) (cs : List ℕ) (x : ℕ) → take x (counts z cs) ≡ counts z (take x cs)
counts_take z cs zero = refl
counts_take z [] (suc x) = refl
counts_take z (c ∷ cs) (suc x) = rw (counts_take z cs x)

total_take : (ts : List ℕ) (x : ℕ) → total (take x ts) ≤ total ts
unfolding total
total_take ts zero = omega arith
total_take [] (suc x) = omega arith
total_take (t ∷ ts) (suc x) = omega (arith, total_take ts x)

module _ {plan : List Entry} {p : List ℕ} {a b x : ℕ} (d : DepIn plan p a b) (chosen : x < firsts plan a) where
  chosen_long : length (take x (drop b p)) ≡ x
  chosen_long = run_long p b x (omega (arith, d.inside, chosen))

  pub before_nodes : (i : ℕ) → i < length (take x (drop b p)) → get_or (take x (drop b p)) i 0 < length plan
  before_nodes i l =
      let w : i < x = omega (arith, chosen_long) in
      rw (run_at p b x (omega (arith, d.inside, chosen)) i w) (d.nodes i (omega (arith, chosen)))

  pub before_finite : head_size plan p b < 2 ^ 63 → (i : ℕ) → i < length (take x (drop b p)) → size_word plan (get_or (take x (drop b p)) i 0) < 2 ^ 63
  before_finite h i l =
      let w : i < x = omega (arith, chosen_long) in
      rw (run_at p b x (omega (arith, d.inside, chosen)) i w) (d.finite h i (omega (arith, chosen)))

  before_is : take x (counts (size_in plan) (take (firsts plan a) (drop b p))) ≡ counts (size_in plan) (take x (drop b p))
  before_is = rw (counts_take (size_in plan) (take (firsts plan a) (drop b p)) x, take-take x (firsts plan a) (drop b p) (omega (arith, chosen)))

  module _ (h : head_size plan p b < 2 ^ 63) where
    pub few_sum : total (counts (size_in plan) (take x (drop b p))) < 2 ^ 63
    few_sum = rw (← before_is) (omega (arith, d.sum h, total_take (counts (size_in plan) (take (firsts plan a) (drop b p))) x))

    pub finite_join : (y : ℕ) → total (counts (size_in plan) (take x (drop b p))) + y
        ≡ Dep.join (seconds_of (size_in plan) (take (firsts plan a) (drop b p))) x y
    unfolding seconds_of Dep.join
    finite_join y = rw (← not_endless d h, before_is)

  pub endless_join : 2 ^ 63 ≤ head_size plan p b → (y : ℕ)
      → Dep.join (endlesses (firsts plan a)) x y ≡ Dep.join (seconds_of (size_in plan) (take (firsts plan a) (drop b p))) x y
  unfolding seconds_of
  endless_join h y = rw (d.endless h, run_long p b (firsts plan a) d.inside)
