-- 2 pool | place, count | 1 <= b <= 4,096 and a+b within the pool (5); words all different (6) | b
--   place_of   the place of a word among words
-- Assumes nothing.
use Rattle.std.specs.Prelude.{true, ◌&&◌, List, [], ◌∷◌, ℕ, suc, eqb, leb, get_or, take, drop}
use Rattle.numbers.specs.Pick.{pick}
use Rattle.numbers.specs.Size.{finite}
use Rattle.lists.specs.Lists.{has}
use Rattle.grammar.specs.Checks.{asks, within, different}
use Rattle.grammar.specs.declared.refusal.Refusal.TheVariants.{Range, Repeat}
use Rattle.grammar.specs.Rule.{done, fails, Rule, cell_rule}
use Rattle.grammar.specs.Kind.{Kind}

unfoldable pub place_of : ℕ → List ℕ → ℕ
place_of c [] = 0
place_of c (w ∷ ws) = pick (eqb c w) 0 (suc (place_of c ws))

-- ws are the b words from place a on. "pool: the word at place+n"; 15: "a pool word not listed"
unfoldable pub pool_rule : List ℕ → ℕ → Rule
pool_rule ws b = cell_rule (finite b) (λ n. get_or ws n 0) (λ c. pick (has c ws) (done (place_of c ws)) fails)

abbrev pub pool : Kind
pool = record {
  uses_a = true;
  uses_b = true;
  checks = λ v z. asks ((leb 1 v.b && leb v.b 4096) && within v.a v.b v.pool) Range
      ∷ asks (different (take v.b (drop v.a v.pool))) Repeat ∷ [];
  rule = λ a b p z. pool_rule (take b (drop a p)) b;
}
