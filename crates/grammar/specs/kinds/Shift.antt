-- 3 shift | node, k | a lower (4); k <= 2^32 (5); node a of kind 0, 1 or 3 (7) | of a
-- Assumes nothing.
use Rattle.std.specs.Prelude.{true, ◌||◌, [], ◌∷◌, ℕ, ◌^◌, eqb, leb}
use Rattle.numbers.specs.Size.{Size}
use Rattle.grammar.specs.Checks.{asks}
use Rattle.grammar.specs.declared.refusal.Refusal.TheVariants.{Reference, Range, UnsuitedPart}
use Rattle.grammar.specs.Rule.{Rule, part_rule}
use Rattle.grammar.specs.Kind.{Kind, lower}

-- "shift: the part's cell plus k"
unfoldable pub shift_rule : Size → ℕ → ℕ → Rule
shift_rule s a k = part_rule s a k

abbrev pub shift : Kind
shift = record {
  uses_a = true;
  uses_b = true;
  checks = λ v z. asks (lower v v.a) Reference ∷ asks (leb v.b (2 ^ 32)) Range
      ∷ asks ((eqb (v.kind v.a) 0 || eqb (v.kind v.a) 1) || eqb (v.kind v.a) 3) UnsuitedPart ∷ [];
  rule = λ a b p z. shift_rule (z a) a b;
}
