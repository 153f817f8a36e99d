-- 8 fix | body | b zero (3); a lower (4); body endless (7) | endless
-- Assumes nothing.
use Rattle.std.specs.Prelude.{true, false, [], ◌∷◌, ℕ}
use Rattle.numbers.specs.Size.{endless}
use Rattle.grammar.specs.Checks.{asks, is_endless}
use Rattle.grammar.specs.declared.refusal.Refusal.TheVariants.{Reference, UnsuitedPart}
use Rattle.grammar.specs.Rule.{Rule, part_rule}
use Rattle.grammar.specs.Kind.{Kind, lower}

-- "fix: the body at n. again: its fix at n."
unfoldable pub pass_rule : ℕ → Rule
pass_rule a = part_rule endless a 0

abbrev pub fix : Kind
fix = record {
  uses_a = true;
  uses_b = false;
  checks = λ v z. asks (lower v v.a) Reference ∷ asks (is_endless (z v.a)) UnsuitedPart ∷ [];
  rule = λ a b p z. pass_rule a;
}
