-- The law of shift.
--   shift_law      its rule is lawful, and its size fits
--   shift_plain    it is no except
--   shift_lower    its steps lead to lower nodes
--   shift_small    it adds at most 2^32
--   bare, shift_bare   its part is one of those kinds
-- Assumes nothing.
use mathlib.Core.Path.{◌≡◌, refl}
use mathlib.Core.Bool.{Bool, true, ◌||◌}
use mathlib.Core.List.Memᴰ
use Prim.Native.Nat.{ℕ, ◌^◌, ◌<◌, ◌≤◌}
use native.Mathlib.Nat.{le_refl}
use native.Mathlib.Omega.{arith}
use lib.Dec.{eqb}
use borrow.Author.Tests.{ltb-true, leb-true}
use Rattle.numbers.specs.Size.{Size}
use Rattle.grammar.specs.Rule.{done}
use Rattle.grammar.specs.Law.{flat, Lawful, Holds}
use Rattle.grammar.specs.Kind.{Node}
use Rattle.grammar.proofs.Trees.{spell_done, spell_reads}
use Rattle.grammar.proofs.KindLaw.{KindLaw, Lower, Plain}
use Rattle.grammar.specs.kinds.Shift.{shift_rule, shift}
use Rattle.grammar.specs.Refusals.{number_of}

shift_rule_lem : (z : ℕ → Size) (count a k : ℕ) → a < count → Lawful z count (shift_rule (z a) a k)
unfolding shift_rule
shift_rule_lem z count a k l = record {
  writes = λ n h. spell_reads z a k (λ m. done m) n h (spell_done z n);
  reads = λ w. (w.1, refl);
  names = (Memᴰ.head refl, λ m h. tt);
  meets = tt;
  inside = (l, tt);
  among = λ p m. m;
  falls = λ n h. (flat (Memᴰ.head refl) (le_refl n), tt);
}

pub shift_law : KindLaw shift
unfolding number_of
shift_law = record {
  gives = λ v z. refl;
  sees = λ v z h. rw h.0;
  lawful = λ v z r h. shift_rule_lem z v.nodes v.a v.b (omega (arith, r.node, ltb-true v.a v.own h.0));
  fit = λ v z f h. unfold shift_rule in f v.a (ltb-true v.a v.own h.0);
}

pub shift_small : (v : Node) (z : ℕ → Size) → Holds (shift.checks v z) → v.b ≤ 2 ^ 32
shift_small v z h = leb-true v.b (2 ^ 32) h.1.0

-- "of kind 0, 1 or 3"
abbrev pub bare : ℕ → Bool
bare k = (eqb k 0 || eqb k 1) || eqb k 3

pub shift_bare : (v : Node) (z : ℕ → Size) → Holds (shift.checks v z) → bare (v.kind v.a) ≡ true
shift_bare v z h = h.1.1.0

pub shift_lower : Lower shift
unfolding shift_rule
shift_lower v z h = (ltb-true v.a v.own h.0, tt)

pub shift_plain : Plain shift
unfolding shift_rule
shift_plain a b p z = refl
