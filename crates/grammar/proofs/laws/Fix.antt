-- The law of fix.
--   fix_law      its rule is lawful, and its size fits
--   fix_plain    it is no except
--   fix_lower    its steps lead to lower nodes
-- Assumes nothing.
use mathlib.Core.Path.{◌≡◌, refl}
use mathlib.Core.List.Memᴰ
use Prim.Native.Nat.{ℕ, ◌<◌}
use native.Mathlib.Nat.{le_refl}
use native.Mathlib.Omega.{arith}
use borrow.Author.Tests.{ltb-true}
use Rattle.numbers.specs.Size.{Size, endless}
use Rattle.grammar.specs.Rule.{done}
use Rattle.grammar.specs.Law.{flat, Lawful}
use Rattle.grammar.proofs.Tests.{is_endless_lem}
use Rattle.grammar.proofs.Trees.{spell_done, spell_reads}
use Rattle.grammar.proofs.KindLaw.{KindLaw, Lower, Plain}
use Rattle.grammar.specs.kinds.Fix.{pass_rule, fix}
use Rattle.grammar.specs.Refusals.{number_of}

pub pass_rule_lem : (z : ℕ → Size) (count a : ℕ) → a < count → z a ≡ endless → Lawful z count (pass_rule a)
unfolding pass_rule
pass_rule_lem z count a l e = record {
  writes = λ n h. spell_reads z a 0 (λ m. done m) n (rw e tt) (spell_done z n);
  reads = λ w. (tt, refl);
  names = (Memᴰ.head refl, λ m h. tt);
  meets = tt;
  inside = (l, tt);
  among = λ p m. m;
  falls = λ n h. (flat (Memᴰ.head refl) (le_refl n), tt);
}

pub fix_law : KindLaw fix
unfolding number_of
fix_law = record {
  gives = λ v z. refl;
  sees = λ v z h. refl;
  lawful = λ v z r h.
      let la = ltb-true v.a v.own h.0 in
      pass_rule_lem z v.nodes v.a (omega (arith, r.node)) (is_endless_lem (z v.a) (rw h.0 at h.1.0));
  fit = λ v z f h. unfold pass_rule in tt;
}

pub fix_lower : Lower fix
unfolding pass_rule
fix_lower v z h = (ltb-true v.a v.own h.0, tt)

pub fix_plain : Plain fix
unfolding pass_rule
fix_plain a b p z = refl
