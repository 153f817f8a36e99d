-- A visit, over any rules: what it shows, by its items; and its parts may be visited.
--   walk_..     what a visit shows
--   visited     a node that may be visited is one of the plan
--   Next        a part of a visit: it may be visited, at a number that is at most one more
--   next_by     of each part of a visit
-- Assumes nothing.
use mathlib.Core.Path.{◌≡◌, refl, subst, ap, ◌∙◌}
use mathlib.Core.List.{List, [], ◌∷◌, ◌++◌, append-nil}
use Prim.Native.Nat.{ℕ, zero, suc, ◌+◌, ◌-◌, ◌≤◌}
use native.Mathlib.Numerals.{sub-one}
use native.Mathlib.Omega.{arith}
use Rattle.numbers.specs.Size.{Below}
use Rattle.grammar.specs.declared.entry.Entry.{Entry}
use Rattle.grammar.specs.Plan.{size_in, rule_in}
use Rattle.grammar.specs.Rule.{Item, own, part, Rule}
use Rattle.grammar.specs.Law.{Each, Down, flat, guarded, skip}
use Rattle.walk.specs.Walk.{cell, deep, shown, walk}
use Rattle.walk.specs.Plan.{Reading, Visits}
use Rattle.grammar.proofs.Stepping.{under_mem}
use Rattle.walk.proofs.Ends.{parts_of, each_two}

-- ---- what a visit shows
module _ (g : ℕ → Rule) (i n up : ℕ) {d : ℕ} where
  pub walk_deep : d ≡ 0 → walk g d up i n ≡ deep ∷ []
  unfolding walk
  walk_deep e = rw e

  module _ (f : d ≡ 0 → ⊥) where
    pub walk_by : {is : List Item} → (g i).items n ≡ is → walk g d up i n ≡ shown (walk g (d - 1)) up is
    walk_by e = by d f ∙ ap (shown (walk g (d - 1)) up) e
      where
        by : (e : ℕ) → (e ≡ 0 → ⊥) → walk g e up i n ≡ shown (walk g (e - 1)) up ((g i).items n)
        by zero f = absurd (f refl)
        by (suc e) f = unfold walk in rw sub-one

    pub walk_cell : {c x : ℕ} → (g i).items n ≡ own c ∷ [] → x ≡ c + up → walk g d up i n ≡ cell x ∷ []
    unfolding shown
    walk_cell e q = walk_by e ∙ rw q

    pub walk_pass : {a m k u : ℕ} → (g i).items n ≡ part a m k ∷ [] → u ≡ up + k → walk g d up i n ≡ walk g (d - 1) u a m
    unfolding shown
    walk_pass e q = walk_by e ∙ rw (q, append-nil)

    -- where nothing is added
    pub walk_word : {c : ℕ} → (g i).items n ≡ own c ∷ [] → up ≡ 0 → walk g d up i n ≡ cell c ∷ []
    walk_word {c} e q = walk_cell e (omega arith)

    pub walk_same : {a m : ℕ} → (g i).items n ≡ part a m 0 ∷ [] → up ≡ 0 → walk g d up i n ≡ walk g (d - 1) 0 a m
    walk_same e q = walk_pass e (omega arith)

    pub walk_tag : {c a m : ℕ} → (g i).items n ≡ own c ∷ part a m 0 ∷ [] → up ≡ 0 → walk g d up i n ≡ cell c ∷ walk g (d - 1) 0 a m
    unfolding shown
    walk_tag {c} e q = let z : c + 0 ≡ c = omega arith in walk_by e ∙ rw (q, z, append-nil)

    pub walk_two : {a x b y : ℕ} → (g i).items n ≡ part a x 0 ∷ part b y 0 ∷ [] → up ≡ 0 → walk g d up i n ≡ walk g (d - 1) 0 a x ++ walk g (d - 1) 0 b y
    unfolding shown
    walk_two e q = walk_by e ∙ rw (q, append-nil)

-- ---- the parts of a visit
pub record Next (plan : List Entry) (p : List ℕ) (n q m : ℕ) : Type 0 where
  pub visits : Visits plan p q m
  pub near : m ≤ n + 1

pub visited : {plan : List Entry} {p : List ℕ} {i n : ℕ} → Visits plan p i n → Reading plan p i
visited v = record { walks = v.walks; node = v.node }

nexts : {plan : List Entry} {p : List ℕ} {i n : ℕ} → Visits plan p i n → Each (Next plan p n) ((rule_in plan p i).items n)
nexts {plan} {p} {i} {n} v =
    let g = v.walks.good in
    let r = g.lawful i v.node in
    let h = subst (Below n) (g.sized i v.node) v.below in
    each_two (λ q m a f. record { visits = record { walks = v.walks; node = under_mem _ _ r.inside q a.0; below = a.1 }; near = near f })
    ((rule_in plan p i).items n) (parts_of (size_in plan) v.walks.count (rule_in plan p i) r n h) (r.falls n h)
  where
    near : {q m : ℕ} → Down (rule_in plan p i) n q m → m ≤ n + 1
    near (flat s l) = omega arith
    near (guarded l) = omega arith
    near (skip e l) = l

pub next_by : {plan : List Entry} {p : List ℕ} {i n : ℕ} → Visits plan p i n → {is : List Item} → (rule_in plan p i).items n ≡ is → Each (Next plan p n) is
next_by {plan} {p} {i} {n} v e = subst (Each (Next plan p n)) e (nexts v)
