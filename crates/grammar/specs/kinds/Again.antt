-- 9 again | fix | b zero (3); a above the own number, in the table, with kind word 8 (4) | endless
-- Assumes nothing.
use Rattle.std.specs.Prelude.{true, false, ◌&&◌, [], ◌∷◌, eqb, ltb}
use Rattle.grammar.specs.Checks.{asks}
use Rattle.grammar.specs.declared.refusal.Refusal.TheVariants.{Reference}
use Rattle.grammar.specs.Kind.{Kind}
use Rattle.grammar.specs.kinds.Fix.{pass_rule}

abbrev pub again : Kind
again = record {
  uses_a = true;
  uses_b = false;
  checks = λ v z. asks ((ltb v.own v.a && ltb v.a v.nodes) && eqb (v.kind v.a) 8) Reference ∷ [];
  rule = λ a b p z. pass_rule a;
}
