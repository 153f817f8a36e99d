-- What 01's rows are made of: checks in their order, each with its refusal, and then a size.
--   Check, Row, row       the first check that fails, or the size
--   within, different   tests of words
--   fits, is_endless, is_one, few, count   tests of sizes
--   seconds, total, all_lower, all_finite, all_endless   of a dep's seconds; z has the nodes' sizes
-- Assumes nothing.
use Rattle.std.specs.Prelude.{Bool, true, false, not, ◌&&◌, List, [], ◌∷◌, ℕ, ◌+◌, ◌^◌, eqb, ltb, leb, length, take, drop}
use Rattle.numbers.specs.Size.{Size, finite, endless, plus}
use Rattle.lists.specs.Lists.{has, every}
use Rattle.grammar.specs.declared.refusal.Refusal.{Refusal}

pub data Check : Type 0 where
  asks : Bool → Refusal → Check

pub data Row : Type 0 where
  fault : Refusal → Row
  sized : Size → Row

unfoldable pub row : List Check → Size → Row
row [] s = sized s
row (asks true r ∷ cs) s = row cs s
row (asks false r ∷ cs) s = fault r

-- ---- words
-- "a+b within the pool": at most its length
abbrev pub within : ℕ → ℕ → List ℕ → Bool
within a b p = leb (a + b) (length p)

-- "words all different"
unfoldable pub different : List ℕ → Bool
different [] = true
different (x ∷ xs) = not (has x xs) && different xs

-- ---- sizes
-- "a whole number up to 2^62, or endless"
abbrev pub fits : Size → Bool
fits (finite s) = leb s (2 ^ 62)
fits endless = true

abbrev pub is_endless : Size → Bool
is_endless (finite s) = false
is_endless endless = true

abbrev pub is_one : Size → Bool
is_one (finite s) = eqb s 1
is_one endless = false

-- "its size m finite, at most 256"
abbrev pub few : Size → Bool
few (finite m) = leb m 256
few endless = false

abbrev pub count : Size → ℕ
count (finite m) = m
count endless = 0

-- a dep's seconds: the m words from place b on
abbrev pub seconds : List ℕ → ℕ → Size → List ℕ
seconds p b m = take (count m) (drop b p)

-- "sum of the seconds", where z has the nodes' sizes
unfoldable pub total : (ℕ → Size) → List ℕ → Size
total z [] = finite 0
total z (c ∷ cs) = plus (z c) (total z cs)

-- "each of those m words a lower node"
abbrev pub all_lower : ℕ → List ℕ → Bool
all_lower n = every (λ c. ltb c n)

-- "all finite or all endless"
abbrev pub all_finite : (ℕ → Size) → List ℕ → Bool
all_finite z = every (λ c. not (is_endless (z c)))

abbrev pub all_endless : (ℕ → Size) → List ℕ → Bool
all_endless z = every (λ c. is_endless (z c))
