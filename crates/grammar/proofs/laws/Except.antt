-- The law of except.
--   except_law      its rule is lawful, and its size fits
--   except_lower    its steps lead to lower nodes
--   except_small    the removed number is below 2^62
-- Assumes nothing.
use mathlib.Core.Path.{◌≡◌, refl, subst}
use mathlib.Core.Bool.{true, not}
use mathlib.Core.List.Memᴰ
use mathlib.Core.List.{[], ◌∷◌}
use Prim.Native.Nat.{ℕ, ◌^◌, ◌<◌}
use native.Mathlib.Omega.{arith}
use lib.Dec.{eqb, ltb}
use borrow.Author.Tests.{ltb-true, eqb-false, ne_eqb, not-true}
use Rattle.numbers.specs.Pick.{pick}
use Rattle.numbers.specs.Size.{Size, finite, endless, Below, less}
use Rattle.numbers.specs.Size.{below as is_below_size}
use Rattle.grammar.specs.Checks.{is_one}
use Rattle.grammar.specs.Law.{Fit, Spells, skip, Lawful, Holds}
use Rattle.grammar.specs.Kind.{Node}
use Rattle.numbers.proofs.Tests.{and_left, and_right}
use Rattle.grammar.specs.Rule.{part, done, fails, reads}
use Rattle.grammar.proofs.Trees.{spell_done, spell_reads, spell_right, read_pick, names_pick}
use Rattle.grammar.proofs.KindLaw.{KindLaw, Lower}
use Rattle.numbers.specs.Except
use Rattle.numbers.proofs.size.SizeWords.{below_is}
use Rattle.numbers.proofs.except.SplitJoin as Excepts
use Rattle.grammar.specs.kinds.Except.{except_rule, except}
use Rattle.grammar.specs.Refusals.{number_of}

pub except_rule_lem : (z : ℕ → Size) (count a b : ℕ) → a < count → Below b (z a) → Lawful z count (except_rule (z a) a b)
unfolding except_rule
except_rule_lem z count a b l hb = record {
  writes = λ n h. subst (Spells z (reads a 0 (λ m. pick (eqb m b) fails (done (Except.join b m)))) (part a (Except.split b n) 0 ∷ [])) (Excepts.join_split b n)
      (spell_reads z a 0 (λ m. pick (eqb m b) fails (done (Except.join b m))) (Except.split b n) (Excepts.split_below (z a) b n h)
      (spell_right z (eqb (Except.split b n) b) fails _ (ne_eqb (Except.split b n) b (Excepts.split_kept b n))
      (spell_done z (Except.join b (Except.split b n)))));
  reads = λ w. read_pick z (λ n is. Below n (less (z a)) × (part a (Except.split b n) 0 ∷ [] ≡ part a w.0 0 ∷ is))
      (eqb w.0 b) fails (done (Except.join b w.0))
      (λ e v. absurd v)
      (λ e v. let ne = eqb-false w.0 b e in (Excepts.join_below (z a) b w.0 hb w.1 ne, rw (Excepts.split_join b w.0 ne))) w.2;
  names = (Memᴰ.head refl, λ m h. names_pick z (a ∷ []) (eqb m b) fails (done (Except.join b m)) tt tt);
  meets = tt;
  inside = (l, tt);
  among = λ p m. m;
  falls = λ n h. (skip refl (rw (Excepts.join_split b n) at (Excepts.join_least b (Except.split b n)).0), tt);
}

fit_less : (s : Size) → Fit s → not (is_one s) ≡ true → Fit (less s)
unfolding less
fit_less (finite s) h e = let ne = eqb-false s 1 (not-true (eqb s 1) e) in (omega arith, omega arith)
fit_less endless h e = tt

pub except_law : KindLaw except
unfolding number_of
except_law = record {
  gives = λ v z. refl;
  sees = λ v z h. rw h.0;
  lawful = λ v z r h.
      let la = ltb-true v.a v.own h.0 in
      let hb = (below_is v.b (z v.a)).1 (and_left _ (ltb v.b (2 ^ 62)) (rw h.0 at h.1.1.0)) in
      except_rule_lem z v.nodes v.a v.b (omega (arith, r.node)) hb;
  fit = λ v z f h. unfold except_rule in fit_less (z v.a) (f v.a (ltb-true v.a v.own h.0)) (rw h.0 at h.1.0);
}

pub except_small : (v : Node) (z : ℕ → Size) → Holds (except.checks v z) → v.b < 2 ^ 62
except_small v z h = ltb-true v.b (2 ^ 62) (and_right (is_below_size v.b (z v.a)) _ h.1.1.0)

pub except_lower : Lower except
unfolding except_rule
except_lower v z h = (ltb-true v.a v.own h.0, tt)
