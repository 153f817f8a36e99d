-- Where the steps of a checked table lead, and the nodes that a node names, one after the other.
--   step_to      to a node of the table
--   step_down    to a lower node, but for that of an again
--   few_nodes, named_in   a table has at most 256 nodes, and the nodes named are among them
--   Marking      the nodes that are left to mark; marking_..   its turns
--   Asking       the nodes that are left to ask; asking_..   its turns
-- Assumes nothing.
use mathlib.Core.Path.{◌≡◌, refl, sym, subst, ◌∙◌}
use mathlib.Core.Bool.{Bool, true, false}
use mathlib.Core.Logic.{⊎_elim}
use mathlib.Core.List.Memᴰ
use mathlib.Core.List.{List, [], ◌∷◌, Memᴰ}
use Prim.Native.Nat.{ℕ, ◌≤◌, ◌<◌}
use native.Mathlib.Omega.{arith}
use lib.ListN.{get_or-eq_default, set}
use Rattle.numbers.specs.Size.{Size}
use Rattle.graph.specs.Marks.{marked}
use Rattle.lists.proofs.Order.{le_or_lt}
use Rattle.grammar.specs.declared.entry.Entry.{Entry}
use Rattle.grammar.specs.Table.{kind_of, nodes}
use Rattle.lists.specs.Lists.{every}
use Rattle.grammar.specs.Law.{Under}
use Rattle.grammar.specs.Steps.{steps_of, Step}
use Rattle.grammar.specs.Checked.{Checked}
use Rattle.grammar.specs.Plan.{size_in, Ready}
use Rattle.grammar.specs.kinds.Below.{below_rule}
use Rattle.grammar.proofs.Stepping.{under_mem}
use Rattle.grammar.proofs.Checked.{step_lower}
use Rattle.grammar.proofs.KindSteps.{steps_by}

-- ---- steps
module _ {t p : List ℕ} {z : ℕ → Size} (c : Checked t p z) (n m : ℕ) where
  -- past the table there are no steps
  step_from : (guarded : Bool) → Step guarded t p z n m → n < nodes t
  unfolding below_rule
  step_from guarded s = ⊎_elim (λ l. absurd (none l)) (λ l. l) (le_or_lt (nodes t) n)
    where
      none : nodes t ≤ n → ⊥
      none l =
          let k : kind_of t n ≡ 0 = get_or-eq_default t 0 (omega (arith, c.whole)) in
          Memᴰ.not-nil (subst (Memᴰ m) (sym (steps_by guarded t p z n k)) s)

  -- every step is one of all steps
  step_among : (guarded : Bool) → Step guarded t p z n m → Step true t p z n m
  step_among true s = s
  step_among false s = (c.good.lawful n (step_from false s)).among m s

  pub step_to : (guarded : Bool) → Step guarded t p z n m → m < nodes t
  step_to guarded s = under_mem (nodes t) (steps_of true t p z n) (c.good.lawful n (step_from guarded s)).inside m (step_among guarded s)

  pub step_down : (guarded : Bool) → (kind_of t n ≡ 9 → ⊥) → Step guarded t p z n m → m < n
  step_down guarded f s = under_mem n (steps_of true t p z n) (step_lower c (step_from guarded s) f) m (step_among guarded s)

-- ---- lists of nodes
all_under : (count : ℕ) (xs : List ℕ) → ((m : ℕ) → Memᴰ m xs → m < count) → Under count xs
all_under count [] f = tt
all_under count (x ∷ xs) f = (f x (Memᴰ.head refl), all_under count xs (λ m i. f m (Memᴰ.tail i)))

-- ---- the nodes that a node names
module _ {t p : List ℕ} {plan : List Entry} (r : Ready t p plan) where
  pub few_nodes : nodes t ≤ 256
  few_nodes = r.checked.few

  pub named_in : (n : ℕ) (guarded : Bool) {left : List ℕ} → left ≡ steps_of guarded t p (size_in plan) n → Under (nodes t) left
  named_in n guarded {left} e = all_under (nodes t) left (λ m i. step_to r.checked n m guarded (subst (Memᴰ m) e i))

-- the first of those that are left
pub first_in : {count k : ℕ} {left rest : List ℕ} → Under count left → left ≡ k ∷ rest → k < count
first_in {count} u e = (subst (Under count) e u).0

pub rest_in : (count : ℕ) {k : ℕ} {left rest : List ℕ} → Under count left → left ≡ k ∷ rest → Under count rest
rest_in count u e = (subst (Under count) e u).1

-- marks that are `target` once those that are left are marked
pub record Marking (count : ℕ) (target seen : List Bool) (left : List ℕ) : Type 0 where
  pub inside : Under count left
  pub marks : marked seen left ≡ target

module _ {count : ℕ} {target seen : List Bool} {left : List ℕ} (m : Marking count target seen left) where
  pub marking_more : {k : ℕ} {rest : List ℕ} → left ≡ k ∷ rest → Marking count target (set seen k true) rest
  unfolding marked
  marking_more e = record { inside = rest_in count m.inside e; marks = rw e at m.marks }

  pub marking_end : left ≡ [] → seen ≡ target
  unfolding marked
  marking_end e = rw e at m.marks

-- a test of all nodes that is one of those that are left
pub record Asking (count : ℕ) (test : ℕ → Bool) (whole left : List ℕ) : Type 0 where
  pub inside : Under count left
  pub same : every test whole ≡ every test left

module _ {count : ℕ} {test : ℕ → Bool} {whole left : List ℕ} (a : Asking count test whole left) where
  pub asking_more : {k : ℕ} {rest : List ℕ} → left ≡ k ∷ rest → test k ≡ true → Asking count test whole rest
  unfolding every
  asking_more e y = record { inside = rest_in count a.inside e; same = a.same ∙ rw (e, y) }

  pub asking_no : {k : ℕ} {rest : List ℕ} → left ≡ k ∷ rest → test k ≡ false → false ≡ every test whole
  unfolding every
  asking_no e f = sym (a.same ∙ rw (e, f))

  pub asking_end : left ≡ [] → true ≡ every test whole
  unfolding every
  asking_end e = sym (a.same ∙ rw e)
