-- A dep's seconds, all finite or all endless: what `seconds_of` says of their sizes.
--   seconds_firsts   there are as many as words
--   seconds_size     their sum is the dep's size
--   seconds_second   the one at x is the node that word x names
-- Assumes nothing.
use mathlib.Core.Path.{◌≡◌, refl, sym, ap, ◌∙◌}
use mathlib.Core.Bool.{Bool, true, false, not, ◌||◌, false≢true}
use mathlib.Core.List.{List, [], ◌∷◌}
use Prim.Native.Nat.{ℕ, zero, suc, ◌<◌}
use native.Mathlib.Nat.{not-suc-le-zero, le_of_suc-le-suc}
use lib.ListN.{length, get_or}
use Rattle.numbers.specs.Pick.{pick}
use Rattle.numbers.specs.Size.{Size, finite, endless, plus}
use Rattle.numbers.specs.Dep.{finites, endlesses, firsts, second}
use Rattle.numbers.specs.Dep
use Rattle.grammar.specs.Checks.{count, is_endless, all_finite, all_endless, total}
use Rattle.lists.specs.Lists.{every}
use Rattle.numbers.proofs.Tests.{and_left, and_right}
use Rattle.grammar.proofs.Tests.{is_endless_lem}
use Rattle.grammar.specs.kinds.Dep.{counts, seconds_of}

counts_long : (z : ℕ → Size) (cs : List ℕ) → length (counts z cs) ≡ length cs
counts_long z [] = refl
counts_long z (c ∷ cs) = ap suc (counts_long z cs)

pub seconds_firsts : (z : ℕ → Size) (cs : List ℕ) → firsts (seconds_of z cs) ≡ length cs
unfolding seconds_of
seconds_firsts z cs = by (all_endless z cs)
  where
    by : (q : Bool) → firsts (pick q (endlesses (length cs)) (finites (counts z cs))) ≡ length cs
    by true = refl
    by false = counts_long z cs

-- a size that is not endless is its count
pub counted : (s : Size) → not (is_endless s) ≡ true → finite (count s) ≡ s
counted (finite s) e = refl
counted endless e = absurd (false≢true e)

pub finite_total : (z : ℕ → Size) (cs : List ℕ) → all_finite z cs ≡ true → finite (Dep.total (counts z cs)) ≡ total z cs
unfolding every total Dep.total plus
finite_total z [] e = refl
finite_total z (c ∷ cs) e =
    let f = counted (z c) (and_left (not (is_endless (z c))) (all_finite z cs) e) in
    rw (← finite_total z cs (and_right (not (is_endless (z c))) (all_finite z cs) e)) (ap (λ (s : Size). plus s (finite (Dep.total (counts z cs)))) f)

endless_total : (z : ℕ → Size) (cs : List ℕ) → 0 < length cs → all_endless z cs ≡ true → endless ≡ total z cs
unfolding every total plus
endless_total z [] h e = absurd (not-suc-le-zero h)
endless_total z (c ∷ cs) h e = rw (is_endless_lem (z c) (and_left (is_endless (z c)) (all_endless z cs) e))

-- alike and not all endless
pub else_finite : (f e : Bool) → (f || e) ≡ true → e ≡ false → f ≡ true
else_finite true e h x = refl
else_finite false e h x = absurd (false≢true (sym x ∙ h))

pub else_endless : (f e : Bool) → (f || e) ≡ true → f ≡ false → e ≡ true
else_endless true e h x = absurd (false≢true (sym x))
else_endless false e h x = h

module _ (z : ℕ → Size) (cs : List ℕ) (alike : (all_finite z cs || all_endless z cs) ≡ true) (some : 0 < length cs) where
  pub seconds_size : Dep.size (seconds_of z cs) ≡ total z cs
  unfolding seconds_of Dep.size
  seconds_size = by (all_endless z cs) refl
    where
      by : (q : Bool) → all_endless z cs ≡ q → Dep.size (pick q (endlesses (length cs)) (finites (counts z cs))) ≡ total z cs
      by true e = endless_total z cs some e
      by false e = finite_total z cs (else_finite (all_finite z cs) (all_endless z cs) alike e)

  finite_at : (ds : List ℕ) (x : ℕ) → x < length ds → all_finite z ds ≡ true → finite (get_or (counts z ds) x 0) ≡ z (get_or ds x 0)
  unfolding every
  finite_at [] x l e = absurd (not-suc-le-zero l)
  finite_at (d ∷ ds) zero l e = counted (z d) (and_left (not (is_endless (z d))) (all_finite z ds) e)
  finite_at (d ∷ ds) (suc x) l e = finite_at ds x (le_of_suc-le-suc l) (and_right (not (is_endless (z d))) (all_finite z ds) e)

  endless_at : (ds : List ℕ) (x : ℕ) → x < length ds → all_endless z ds ≡ true → endless ≡ z (get_or ds x 0)
  unfolding every
  endless_at [] x l e = absurd (not-suc-le-zero l)
  endless_at (d ∷ ds) zero l e = sym (is_endless_lem (z d) (and_left (is_endless (z d)) (all_endless z ds) e))
  endless_at (d ∷ ds) (suc x) l e = endless_at ds x (le_of_suc-le-suc l) (and_right (is_endless (z d)) (all_endless z ds) e)

  pub seconds_second : (x : ℕ) → x < length cs → second (seconds_of z cs) x ≡ z (get_or cs x 0)
  unfolding seconds_of
  seconds_second x l = by (all_endless z cs) refl
    where
      by : (q : Bool) → all_endless z cs ≡ q → second (pick q (endlesses (length cs)) (finites (counts z cs))) x ≡ z (get_or cs x 0)
      by true e = endless_at cs x l e
      by false e = finite_at cs x l (else_finite (all_finite z cs) (all_endless z cs) alike e)
