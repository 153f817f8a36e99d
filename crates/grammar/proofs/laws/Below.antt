-- The law of below.
--   below_law      its rule is lawful, and its size fits
--   below_plain    it is no except
--   below_lower    it steps nowhere
--   below_most     its count is at most 2^62
-- Assumes nothing.
use mathlib.Core.Path.{◌≡◌, refl}
use mathlib.Core.List.{[], ◌∷◌}
use Prim.Native.Nat.{ℕ, ◌^◌, ◌<◌, ◌≤◌}
use lib.Dec.{ltb, leb}
use borrow.Author.Tests.{ltb-true, leb-true, lt-ltb}
use Rattle.numbers.specs.Pick.{pick}
use Rattle.numbers.specs.Size.{Size}
use Rattle.numbers.proofs.Tests.{and_left, and_right}
use Rattle.grammar.specs.Rule.{own, done, fails}
use Rattle.grammar.specs.Law.{Lawful, Holds}
use Rattle.grammar.specs.Kind.{Node, before}
use Rattle.grammar.proofs.Trees.{spell_done, spell_takes, spell_left, read_pick, names_pick}
use Rattle.grammar.proofs.KindLaw.{KindLaw, Lower, Plain}
use Rattle.grammar.specs.kinds.Below.{below_rule, below}
use Rattle.grammar.specs.Refusals.{number_of}

below_rule_lem : (z : ℕ → Size) (count a : ℕ) → Lawful z count (below_rule a)
unfolding below_rule
below_rule_lem z count a = record {
  writes = λ n h. spell_takes z (λ c. pick (ltb c a) (done c) fails) n (spell_left z (ltb n a) (done n) fails (lt-ltb n a h) (spell_done z n));
  reads = λ w. read_pick z (λ n is. (n < a) × (own n ∷ [] ≡ own w.0 ∷ is)) (ltb w.0 a) (done w.0) fails
      (λ e v. (ltb-true w.0 a e, refl)) (λ e v. absurd v) w.1;
  names = λ c. names_pick z [] (ltb c a) (done c) fails tt tt;
  meets = tt;
  inside = tt;
  among = λ p m. m;
  falls = λ n h. tt;
}

pub below_most : (v : Node) (z : ℕ → Size) → Holds (below.checks v z) → v.a ≤ 2 ^ 62
below_most v z h = leb-true v.a (2 ^ 62) (and_right (leb 1 v.a) _ h.0)

pub below_law : KindLaw below
unfolding number_of
below_law = record {
  gives = λ v z. refl;
  sees = λ v z h. refl;
  lawful = λ v z r h. below_rule_lem z v.nodes v.a;
  fit = λ v z f h. unfold below_rule in (leb-true 1 v.a (and_left _ _ h.0), below_most v (before z v.own) h);
}

pub below_lower : Lower below
unfolding below_rule
below_lower v z h = tt

pub below_plain : Plain below
unfolding below_rule
below_plain a b p z = refl
