-- The law of again. Its step leads up.
--   again_law    its rule is lawful, and its size fits
--   again_plain    it is no except
-- Assumes nothing.
use mathlib.Core.Path.{refl}
use mathlib.Core.Bool.{◌&&◌}
use lib.Dec.{ltb}
use borrow.Author.Tests.{ltb-true, eqb-true}
use Rattle.numbers.proofs.Tests.{and_left, and_right}
use Rattle.grammar.proofs.KindLaw.{KindLaw, Plain}
use Rattle.grammar.specs.kinds.Fix.{pass_rule}
use Rattle.grammar.specs.kinds.Again.{again}
use Rattle.grammar.proofs.laws.Fix.{pass_rule_lem}
use Rattle.grammar.specs.Refusals.{number_of}

pub again_law : KindLaw again
unfolding number_of
again_law = record {
  gives = λ v z. refl;
  sees = λ v z h. refl;
  lawful = λ v z r h.
      let l = and_left (ltb v.own v.a && ltb v.a v.nodes) _ h.0 in
      let la = ltb-true v.a v.nodes (and_right (ltb v.own v.a) _ l) in
      let k = eqb-true (v.kind v.a) 8 (and_right (ltb v.own v.a && ltb v.a v.nodes) _ h.0) in
      pass_rule_lem z v.nodes v.a la (r.fixes v.a la k);
  fit = λ v z f h. unfold pass_rule in tt;
}

pub again_plain : Plain again
unfolding pass_rule
again_plain a b p z = refl
