-- The first triples, the last and the first of a layer, and an eight-tuple at the largest number.
-- Assumes nothing.
use mathlib.Core.Path.{◌≡◌, refl}
use mathlib.Core.List.{List, [], ◌∷◌, map}
use Prim.Native.Nat.{ℕ, ◌-◌, ◌^◌}
use Rattle.numbers.specs.Power.{root_by, root_of}
use Rattle.numbers.specs.Tuple.{largest, ways, tail, rank, split, join}

abbrev triple : ℕ → ℕ → ℕ → List ℕ
triple x y z = x ∷ y ∷ z ∷ []

abbrev numbers : List ℕ
numbers = 0 ∷ 1 ∷ 2 ∷ 3 ∷ 4 ∷ 5 ∷ 6 ∷ 7 ∷ 8 ∷ 9 ∷ 26 ∷ 27 ∷ []

abbrev triples : List (List ℕ)
triples =
    triple 0 0 0 ∷ triple 0 0 1 ∷ triple 0 1 0 ∷ triple 0 1 1 ∷ triple 1 0 0 ∷ triple 1 0 1 ∷ triple 1 1 0 ∷ triple 1 1 1
    ∷ triple 0 0 2 ∷ triple 0 1 2 ∷ triple 2 2 2 ∷ triple 0 0 3 ∷ []

split_triples : map (split 3) numbers ≡ triples
unfolding split root_of root_by tail ways
split_triples = refl

join_triples : map join triples ≡ numbers
unfolding join largest rank ways
join_triples = refl

abbrev eight : List ℕ
eight = 65 ∷ 146 ∷ 215 ∷ 190 ∷ 159 ∷ 205 ∷ 38 ∷ 120 ∷ []

split_eight : split 8 (2 ^ 62 - 1) ≡ eight
unfolding split root_of root_by tail ways
split_eight = refl

join_eight : join eight ≡ 2 ^ 62 - 1
unfolding join largest rank ways
join_eight = refl
