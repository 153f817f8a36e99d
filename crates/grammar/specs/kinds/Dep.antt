-- 6 dep | node, place | a lower (4); its size m finite, at most 256 (7); b+m within the pool (5); each of those m words a lower node (4);
-- all finite or all endless (7); size (8) | sum of the seconds
--   seconds_of       a dep's seconds, by their sizes
--   seconds_checks, seconds_row   what is asked of them, and the rest of the row from there on
-- Assumes nothing.
use Rattle.std.specs.Prelude.{true, false, ◌||◌, List, [], ◌∷◌, map, ℕ, length, get_or}
use Rattle.numbers.specs.Pick.{pick}
use Rattle.numbers.specs.Size.{Size}
use Rattle.numbers.specs.Dep.{Seconds, finites, endlesses, split, join}
use Rattle.numbers.specs.declared.cons.Pair.{Pair}
use Rattle.grammar.specs.Checks.{Check, asks, Row, row, fits, few, within, count, seconds, total, all_lower, all_finite, all_endless}
use Rattle.grammar.specs.declared.refusal.Refusal.TheVariants.{Reference, Range, UnsuitedPart, TooLarge}
use Rattle.grammar.specs.Rule.{Item, part, done, reads, Rule}
use Rattle.grammar.specs.Kind.{Kind, lower}

-- the sizes of finite nodes cs
abbrev pub counts : (ℕ → Size) → List ℕ → List ℕ
counts z cs = map (λ c. count (z c)) cs

-- the seconds cs, of which z has the sizes
unfoldable pub seconds_of : (ℕ → Size) → List ℕ → Seconds
seconds_of z cs = pick (all_endless z cs) (endlesses (length cs)) (finites (counts z cs))

-- the second is chosen by the first part's number
abbrev pub chosen : ℕ → List ℕ → Pair → List Item
chosen a cs q = part a q.first 0 ∷ part (get_or cs q.first 0) q.second 0 ∷ []

unfoldable pub dep_rule : Size → Seconds → ℕ → List ℕ → Rule
dep_rule s zs a cs = record {
  size = s;
  items = λ n. chosen a cs (split zs n);
  tree = reads a 0 (λ x. reads (get_or cs x 0) 0 (λ y. done (join zs x y)));
  steps = λ g. a ∷ cs;
  skips = false;
}

-- of the seconds cs of node n
abbrev pub seconds_checks : ℕ → (ℕ → Size) → List ℕ → List Check
seconds_checks n z cs = asks (all_lower n cs) Reference ∷ asks (all_finite z cs || all_endless z cs) UnsuitedPart ∷ asks (fits (total z cs)) TooLarge ∷ []

abbrev pub seconds_row : ℕ → (ℕ → Size) → List ℕ → Row
seconds_row n z cs = row (seconds_checks n z cs) (total z cs)

abbrev pub dep : Kind
dep = record {
  uses_a = true;
  uses_b = true;
  checks = λ v z. asks (lower v v.a) Reference ∷ asks (few (z v.a)) UnsuitedPart ∷ asks (within v.b (count (z v.a)) v.pool) Range
      ∷ seconds_checks v.own z (seconds v.pool v.b (z v.a));
  rule = λ a b p z. let cs = seconds p b (z a) in dep_rule (total z cs) (seconds_of z cs) a cs;
}
