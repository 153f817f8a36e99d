-- 0 below | count | b zero (3); 1 <= a <= 2^62 (5) | a
-- Assumes nothing.
use Rattle.std.specs.Prelude.{true, false, ◌&&◌, [], ◌∷◌, ℕ, ◌^◌, ltb, leb}
use Rattle.numbers.specs.Pick.{pick}
use Rattle.numbers.specs.Size.{finite}
use Rattle.grammar.specs.Checks.{asks}
use Rattle.grammar.specs.declared.refusal.Refusal.TheVariants.{Range}
use Rattle.grammar.specs.Rule.{done, fails, Rule, cell_rule}
use Rattle.grammar.specs.Kind.{Kind}

-- "below, nats: cell n"; 15: "a number cell not below its count"
unfoldable pub below_rule : ℕ → Rule
below_rule a = cell_rule (finite a) (λ n. n) (λ c. pick (ltb c a) (done c) fails)

abbrev pub below : Kind
below = record {
  uses_a = true;
  uses_b = false;
  checks = λ v z. asks (leb 1 v.a && leb v.a (2 ^ 62)) Range ∷ [];
  rule = λ a b p z. below_rule a;
}
