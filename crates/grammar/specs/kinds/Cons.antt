-- 5 cons | nodes | both lower (4); size (8) | product
-- Assumes nothing.
use Rattle.std.specs.Prelude.{true, false, ◌&&◌, List, [], ◌∷◌, ℕ}
use Rattle.numbers.specs.Size.{Size, times}
use Rattle.numbers.specs.Cons.{split, join}
use Rattle.numbers.specs.declared.cons.Pair.{Pair}
use Rattle.grammar.specs.Checks.{asks, fits}
use Rattle.grammar.specs.declared.refusal.Refusal.TheVariants.{Reference, TooLarge}
use Rattle.grammar.specs.Rule.{Item, part, done, reads, Rule}
use Rattle.grammar.specs.Kind.{Kind, lower}

-- "The second part's cells start right after the first part's."
abbrev pub both : ℕ → ℕ → Pair → List Item
both a b q = part a q.first 0 ∷ part b q.second 0 ∷ []

unfoldable pub cons_rule : Size → Size → ℕ → ℕ → Rule
cons_rule s t a b = record {
  size = times s t;
  items = λ n. both a b (split s t n);
  tree = reads a 0 (λ x. reads b 0 (λ y. done (join s t x y)));
  steps = λ g. a ∷ b ∷ [];
  skips = false;
}

abbrev pub cons : Kind
cons = record {
  uses_a = true;
  uses_b = true;
  checks = λ v z. asks (lower v v.a && lower v v.b) Reference ∷ asks (fits (times (z v.a) (z v.b))) TooLarge ∷ [];
  rule = λ a b p z. cons_rule (z a) (z b) a b;
}
