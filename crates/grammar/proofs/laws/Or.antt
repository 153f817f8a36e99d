-- The law of or.
--   or_law      its rule is lawful, and its size fits
--   or_plain    it is no except
--   or_lower    its steps lead to lower nodes
-- Assumes nothing.
use mathlib.Core.Path.{◌≡◌, refl, subst}
use mathlib.Core.List.Memᴰ
use mathlib.Core.List.{List, [], ◌∷◌}
use Prim.Native.Nat.{ℕ, ◌<◌}
use native.Mathlib.Omega.{arith}
use lib.Dec.{eqb, ltb}
use borrow.Author.Tests.{ltb-true, eqb-true}
use Rattle.numbers.specs.Size.{Size, finite, endless, Below, NotZero, plus}
use Rattle.grammar.specs.Law.{Spells, Each, Down, flat, guarded, Lawful}
use Rattle.grammar.specs.Rule.{Item, own, Rule}
use Rattle.grammar.proofs.Trees.{spell_done, spell_takes, spell_reads, read_pick, names_pick}
use Rattle.grammar.proofs.KindLaw.{fit_some, fit_plus, lower_both, KindLaw, Lower, Plain}
use Rattle.numbers.specs.Or
use Rattle.numbers.specs.Or.{PartBelow, turn}
use Rattle.numbers.specs.declared.or.Part.{Part}
use Rattle.numbers.specs.declared.or.Part.TheVariants.{First, Second}
use Rattle.numbers.proofs.Tests.{pick_by}
use Rattle.numbers.proofs.or.SplitJoin as Ors
use Rattle.grammar.specs.kinds.Or.{tagged, or_rule, or}
use Rattle.grammar.specs.Refusals.{number_of}

-- the second part has a number below its own
turn_above : (u : Size) (m : ℕ) → NotZero u → m < turn 1 u m
turn_above (finite u) m h = pick_by (λ n. m < n) (ltb m u) (λ e. omega arith) (λ e. omega arith)
turn_above endless m h = omega arith

module _ (z : ℕ → Size) (count a b : ℕ) where
  abbrev rule : Rule
  rule = or_rule (z a) (z b) a b

  or_writes : (q : Part) → PartBelow (z a) (z b) q → Spells z rule.tree (tagged a b q) (Or.join (z a) (z b) q)
  unfolding or_rule
  or_writes (First m) h = spell_takes z _ 0 (spell_reads z a 0 _ m h (spell_done z (Or.join (z a) (z b) (First m))))
  or_writes (Second m) h = spell_takes z _ 1 (spell_reads z b 0 _ m h (spell_done z (Or.join (z a) (z b) (Second m))))

  or_falls : NotZero (z a) → (n : ℕ) (q : Part) → Or.join (z a) (z b) q ≡ n → Each (Down rule n) (tagged a b q)
  unfolding or_rule Or.join
  or_falls s n (First m) e = (flat (Memᴰ.head refl) (omega (arith, Ors.turn_least 0 (z b) m)), tt)
  or_falls s n (Second m) e = (guarded (omega (arith, turn_above (z a) m s)), tt)

  or_rule_lem : a < count → b < count → NotZero (z a) → Lawful z count rule
  unfolding or_rule
  or_rule_lem la lb sa = record {
    writes = λ n h. subst (Spells z rule.tree (tagged a b (Or.split (z a) (z b) n))) (Ors.join_split (z a) (z b) n)
        (or_writes (Or.split (z a) (z b) n) (Ors.split_below (z a) (z b) n h));
    reads = λ w.
        let P : ℕ → List Item → Type 0 = λ n is. Below n (plus (z a) (z b)) × (tagged a b (Or.split (z a) (z b) n) ≡ own w.0 ∷ is) in
        read_pick z P (eqb w.0 0) _ _
        (λ e v. (Ors.join_below (z a) (z b) (First v.0) v.1, rw (Ors.split_join (z a) (z b) (First v.0) v.1, eqb-true w.0 0 e)))
        (λ e. read_pick z P (eqb w.0 1) _ _
        (λ f v. (Ors.join_below (z a) (z b) (Second v.0) v.1, rw (Ors.split_join (z a) (z b) (Second v.0) v.1, eqb-true w.0 1 f)))
        (λ f v. absurd v)) w.1;
    names = λ c. names_pick z (a ∷ b ∷ []) (eqb c 0) _ _ (Memᴰ.head refl, λ m h. tt)
        (names_pick z (a ∷ b ∷ []) (eqb c 1) _ _ (Memᴰ.tail (Memᴰ.head refl), λ m h. tt) tt);
    meets = tt;
    inside = (la, (lb, tt));
    among = λ p m. rw (Memᴰ.eq_of_singleton m) (Memᴰ.head refl);
    falls = λ n h. or_falls sa n (Or.split (z a) (z b) n) (Ors.join_split (z a) (z b) n);
  }

pub or_law : KindLaw or
unfolding number_of
or_law = record {
  gives = λ v z. refl;
  sees = λ v z h. rw ((lower_both v h.0).0, (lower_both v h.0).1);
  lawful = λ v z r h.
      let (ea, eb) = lower_both v h.0 in
      let la = ltb-true v.a v.own ea in
      let lb = ltb-true v.b v.own eb in
      or_rule_lem z v.nodes v.a v.b (omega (arith, r.node)) (omega (arith, r.node)) (fit_some (z v.a) (r.fit v.a la));
  fit = λ v z f h.
      let (ea, eb) = lower_both v h.0 in
      unfold or_rule in fit_plus (z v.a) (z v.b) (f v.a (ltb-true v.a v.own ea)) (rw (ea, eb) at h.1.0);
}

pub or_lower : Lower or
unfolding or_rule
or_lower v z h = let (ea, eb) = lower_both v h.0 in (ltb-true v.a v.own ea, (ltb-true v.b v.own eb, tt))

pub or_plain : Plain or
unfolding or_rule
or_plain a b p z = refl
