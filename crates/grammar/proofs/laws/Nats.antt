-- The law of nats.
--   nats_law      its rule is lawful, and its size fits
--   nats_plain    it is no except
--   nats_lower    it steps nowhere
-- Assumes nothing.
use mathlib.Core.Path.{refl}
use Prim.Native.Nat.{ℕ}
use Rattle.numbers.specs.Size.{Size}
use Rattle.grammar.specs.Rule.{done}
use Rattle.grammar.specs.Law.{Lawful}
use Rattle.grammar.proofs.Trees.{spell_done, spell_takes}
use Rattle.grammar.proofs.KindLaw.{KindLaw, Lower, Plain}
use Rattle.grammar.specs.kinds.Nats.{nats_rule, nats}

nats_rule_lem : (z : ℕ → Size) (count : ℕ) → Lawful z count nats_rule
unfolding nats_rule
nats_rule_lem z count = record {
  writes = λ n h. spell_takes z (λ c. done c) n (spell_done z n);
  reads = λ w. (tt, refl);
  names = λ c. tt;
  meets = tt;
  inside = tt;
  among = λ p m. m;
  falls = λ n h. tt;
}

pub nats_law : KindLaw nats
nats_law = record { gives = λ v z. refl; sees = λ v z h. refl; lawful = λ v z r h. nats_rule_lem z v.nodes; fit = λ v z f h. unfold nats_rule in tt }

pub nats_lower : Lower nats
unfolding nats_rule
nats_lower v z h = tt

pub nats_plain : Plain nats
unfolding nats_rule
nats_plain a b p z = refl
