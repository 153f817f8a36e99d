-- 4 or | nodes | both lower (4); size (8) | sum
-- Assumes nothing.
use Rattle.std.specs.Prelude.{true, false, ◌&&◌, List, [], ◌∷◌, ℕ, eqb}
use Rattle.numbers.specs.Pick.{pick}
use Rattle.numbers.specs.Size.{Size, plus}
use Rattle.numbers.specs.Or.{split, join}
use Rattle.numbers.specs.declared.or.Part.{Part}
use Rattle.numbers.specs.declared.or.Part.TheVariants.{First, Second}
use Rattle.grammar.specs.Checks.{asks, fits}
use Rattle.grammar.specs.declared.refusal.Refusal.TheVariants.{Reference, TooLarge}
use Rattle.grammar.specs.Rule.{Item, own, part, done, fails, takes, reads, Rule}
use Rattle.grammar.specs.Kind.{Kind, lower}

-- "A tag cell, 0 or 1, comes first."
abbrev pub tagged : ℕ → ℕ → Part → List Item
tagged a b (First m) = own 0 ∷ part a m 0 ∷ []
tagged a b (Second m) = own 1 ∷ part b m 0 ∷ []

-- 15: "a tag above 1"
unfoldable pub or_rule : Size → Size → ℕ → ℕ → Rule
or_rule s t a b = record {
  size = plus s t;
  items = λ n. tagged a b (split s t n);
  tree = takes (λ c.
      pick (eqb c 0) (reads a 0 (λ m. done (join s t (First m))))
      (pick (eqb c 1) (reads b 0 (λ m. done (join s t (Second m)))) fails));
  steps = λ g. a ∷ pick g (b ∷ []) [];
  skips = false;
}

abbrev pub or : Kind
or = record {
  uses_a = true;
  uses_b = true;
  checks = λ v z. asks (lower v v.a && lower v v.b) Reference ∷ asks (fits (plus (z v.a) (z v.b))) TooLarge ∷ [];
  rule = λ a b p z. or_rule (z a) (z b) a b;
}
