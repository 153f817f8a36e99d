-- 7 except | node, number | a lower (4); size of a not 1 (7); b below that size and below 2^62 (5) | one less
-- Assumes nothing.
use Rattle.std.specs.Prelude.{true, not, ◌&&◌, [], ◌∷◌, ℕ, ◌^◌, eqb, ltb}
use Rattle.numbers.specs.Pick.{pick}
use Rattle.numbers.specs.Size.{Size, less}
use Rattle.numbers.specs.Size.{below as is_below_size}
use Rattle.numbers.specs.Except.{split, join}
use Rattle.grammar.specs.Checks.{asks, is_one}
use Rattle.grammar.specs.declared.refusal.Refusal.TheVariants.{Reference, Range, UnsuitedPart}
use Rattle.grammar.specs.Rule.{part, done, fails, reads, Rule}
use Rattle.grammar.specs.Kind.{Kind, lower}

-- "the part at n if n < b, otherwise at n+1"; 15: "the case an except removed (met after its last cell)"
unfoldable pub except_rule : Size → ℕ → ℕ → Rule
except_rule s a b = record {
  size = less s;
  items = λ n. part a (split b n) 0 ∷ [];
  tree = reads a 0 (λ m. pick (eqb m b) fails (done (join b m)));
  steps = λ g. a ∷ [];
  skips = true;
}

abbrev pub except : Kind
except = record {
  uses_a = true;
  uses_b = true;
  checks = λ v z. asks (lower v v.a) Reference ∷ asks (not (is_one (z v.a))) UnsuitedPart
      ∷ asks (is_below_size v.b (z v.a) && ltb v.b (2 ^ 62)) Range ∷ [];
  rule = λ a b p z. except_rule (z a) a b;
}
