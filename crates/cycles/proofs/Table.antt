-- A search of a checked table, and its cycles: what `Search`, `Paths` and `Lowest` say of any graph, of a table's.
--   Sought               what holds at the head of the search's loop; its turns, by the facts that the code has
--   cycle_in             a node on a cycle is in the table
--   Passed               of the nodes below n, none that is asked is on a cycle
--   lowest_again         the lowest node of a cycle is an again; lowest_except
--   cycles_..            the verdict on cycles, by what was found
-- Assumes nothing.
use Rattle.grammar.specs.declared.entry.Entry.{Entry}
use mathlib.Core.Path.{◌≡◌, sym, ◌∙◌}
use mathlib.Core.Bool.{Bool, true, false, ◌&&◌, false≢true}
use mathlib.Core.List.{List}
use Prim.Native.Nat.{ℕ, ◌+◌, ◌*◌, ◌-◌, ◌≤◌, ◌<◌, zero-le}
use native.Mathlib.Nat.{le_refl}
use native.Mathlib.Omega.{arith}
use borrow.Author.Count.{below_none, below_more}
use lib.Dec.{ltb}
use borrow.Author.Tests.{eq-eqb, lt-ltb}
use lib.ListN.{length, get_or, set}
use Rattle.numbers.specs.Pick.{pick}
use Rattle.graph.specs.Paths.{Decides}
use Rattle.graph.specs.Lowest.{Lowest}
use Rattle.graph.specs.Marks.{marked}
use Rattle.graph.proofs.Marks.{unmarked, unmarked_set}
use Rattle.lists.proofs.Order.{same?}
use Rattle.graph.proofs.Paths.{carry_from, lowest_on}
use Rattle.graph.proofs.Search.{Searching, Finite, search_start, search_open, search_end}
use Rattle.graph.proofs.Ways.{via_decide}
use Rattle.graph.proofs.Lowest.{lowest_of, lowest_one, nowhere}
use Rattle.grammar.specs.Table.{kind_of, nodes}
use Rattle.grammar.specs.Nodes.{rule_at}
use Rattle.grammar.specs.Checked.{Checked}
use Rattle.grammar.specs.Steps.{steps_of, Step, Leads, Unguarded, ExceptOnCycle}
use Rattle.grammar.specs.Plan.{size_in, Ready}
use Rattle.grammar.specs.Verdict.{leads, unguarded, except_on_cycle, cycles}
use Rattle.grammar.specs.declared.refusal.Refusal.TheVariants.{Unguarded as Rule9, ExceptOnCycle as Rule10}
use Rattle.grammar.specs.Refusals.{accepted, refused}
use Rattle.numbers.proofs.Tests.{and_left, and_right}
use Rattle.numbers.specs.Size.{Size}
use Rattle.std.specs.Prelude.{Option, Some, None}
use Rattle.cycles.specs.Finds.{Finds}
use Rattle.cycles.specs.Asked.{asked, OnCycle}
use Rattle.cycles.proofs.Steps.{step_down, step_to}

-- ---- the graph of a checked table
pub graph : (guarded : Bool) {t p : List ℕ} {z : ℕ → Size} → Checked t p z → Finite (Step guarded t p z) (steps_of guarded t p z) (nodes t)
graph guarded c = record { few = c.few; to_next = λ n m s. s; of_next = λ n m i. i; inside = λ n m s. step_to c n m guarded s }

-- ---- the search
pub record Sought (guarded : Bool) (t p : List ℕ) (plan : List Entry) (from top : ℕ) (seen done : List Bool) : Type 0 where
  pub is : Searching (Step guarded t p (size_in plan)) (nodes t) from top seen done

module _ {guarded : Bool} {t p : List ℕ} {plan : List Entry} (r : Ready t p plan) where
  pub sought_start : {from : ℕ} {seen b : List Bool} → seen ≡ marked b (steps_of guarded t p (size_in plan) from) → length b ≡ 256 → ((k : ℕ) → get_or b k false ≡ false)
      → Sought guarded t p plan from (nodes t) seen b
  sought_start {from} {seen} {b} e long blank = record { is = rw e (search_start (graph guarded r.checked) from b long blank) }

  module _ {from top : ℕ} {seen done : List Bool} (s : Sought guarded t p plan from top seen done) (pos : 0 < top) where
    module _ {next : List Bool} (f : get_or seen (top - 1) false ≡ true) (e : next ≡ marked seen (steps_of guarded t p (size_in plan) (top - 1))) where
      pub sought_again : kind_of t (top - 1) ≡ 9 → Sought guarded t p plan from (nodes t) next (set done (top - 1) true)
      sought_again k = record {
        is = rw e
            (search_open (graph guarded r.checked) s.is (top - 1) (omega arith) f (nodes t)
            (omega (arith, s.is.top_le)) (le_refl (nodes t)) (λ m i. step_to r.checked (top - 1) m guarded i));
      }

      pub sought_lower : (kind_of t (top - 1) ≡ 9 → ⊥) → Sought guarded t p plan from (top - 1) next (set done (top - 1) true)
      sought_lower k = record {
        is = rw e
            (search_open (graph guarded r.checked) s.is (top - 1) (omega arith) f (top - 1)
            (le_refl (top - 1)) (omega (arith, s.is.top_le)) (λ m i. step_down r.checked (top - 1) m guarded k i));
      }

  -- the measure falls where a node is opened
  module _ {from top : ℕ} {seen done : List Bool} (s : Sought guarded t p plan from top seen done) (pos : 0 < top) (d : get_or done (top - 1) false ≡ false) where
    pub falls_again : 257 * unmarked (set done (top - 1) true) + nodes t < 257 * unmarked done + top
    falls_again = omega (arith, unmarked_set done (top - 1) (omega (arith, s.is.top_le, s.is.done_long, r.checked.few)) d, r.checked.few)

    pub falls_lower : 257 * unmarked (set done (top - 1) true) + (top - 1) < 257 * unmarked done + top
    falls_lower = omega (arith, unmarked_set done (top - 1) (omega (arith, s.is.top_le, s.is.done_long, r.checked.few)) d)

  pub sought_end : {from top : ℕ} {seen done : List Bool} → Sought guarded t p plan from top seen done → top ≤ 0
      → Decides (Leads guarded t p (size_in plan) from from) (get_or seen from false)
  sought_end {from} {top} {seen} {done} s l =
      let e : top ≡ 0 = omega arith in
      let w = search_end (graph guarded r.checked) (rw e at s.is) in
      record { yes = λ q. w.sound from q; no = λ q c. false≢true (sym q ∙ w.complete from c) }

-- a node on a cycle is a node of the table
pub cycle_in : (guarded : Bool) {t p : List ℕ} {z : ℕ → Size} → Checked t p z → (n : ℕ) → Leads guarded t p z n n → n < nodes t
cycle_in guarded {t} c n q = carry_from (λ (k : ℕ). k < nodes t) (λ a b _ e. step_to c a b guarded e) (λ m e. step_to c n m guarded e) q

-- ---- the lowest node that is asked and on a cycle
pub finds_none : {P : ℕ → Type 0} → ((k : ℕ) → P k → ⊥) → Finds P None
finds_none f = record { lowest = nowhere f; few = tt }

pub record Passed (guarded : Bool) (t p : List ℕ) (plan : List Entry) (n : ℕ) : Type 0 where
  pub le : n ≤ nodes t
  pub none : (k : ℕ) → k < n → OnCycle guarded t p (size_in plan) k → ⊥

pub passed_none : {guarded : Bool} {t p : List ℕ} {plan : List Entry} → Passed guarded t p plan 0
passed_none = record { le = zero-le; none = below_none _ }

module _ (guarded : Bool) {t p : List ℕ} {plan : List Entry} (r : Ready t p plan) (n : ℕ) {b : Bool} (is_asked : b ≡ asked guarded t p (size_in plan) n) where
  pub passed_kind : Passed guarded t p plan n → n < nodes t → b ≡ false → Passed guarded t p plan (n + 1)
  passed_kind s l f = record { le = omega arith; none = below_more _ n s.none (λ w. false≢true (sym f ∙ (is_asked ∙ w.is))) }

  pub passed_cycle : {q : Bool} → Passed guarded t p plan n → n < nodes t → Decides (Leads guarded t p (size_in plan) n n) q → q ≡ false
      → Passed guarded t p plan (n + 1)
  passed_cycle s l d f = record { le = omega arith; none = below_more _ n s.none (λ w. d.no f w.cycle) }

  pub lowest_found : {q : Bool} → Passed guarded t p plan n → n < nodes t → b ≡ true → Decides (Leads guarded t p (size_in plan) n n) q → q ≡ true
      → Finds (OnCycle guarded t p (size_in plan)) (Some n)
  lowest_found s l k d f = record {
    lowest = record {
      within = omega (arith, r.checked.few);
      found = λ _. record { is = sym is_asked ∙ k; cycle = d.yes f };
      before = s.none;
      none = λ e k w. absurd (omega (arith, r.checked.few));
    };
    few = omega (arith, r.checked.few);
  }

module _ {guarded : Bool} {t p : List ℕ} {plan : List Entry} (r : Ready t p plan) {n : ℕ} where
  pub lowest_none : Passed guarded t p plan n → nodes t ≤ n → Finds (OnCycle guarded t p (size_in plan)) None
  lowest_none s l = finds_none (λ k w. s.none k (omega (arith, cycle_in guarded r.checked k w.cycle)) w)

-- ---- the lowest node of a cycle is an again
module _ (guarded : Bool) {t p : List ℕ} {plan : List Entry} (r : Ready t p plan) where
  low : {k : ℕ} → Leads guarded t p (size_in plan) k k → (j : ℕ) × (j ≤ k) × (kind_of t j ≡ 9) × Leads guarded t p (size_in plan) j j
  low q = lowest_on (λ (j : ℕ). kind_of t j ≡ 9) (λ j. same? (kind_of t j) 9) (λ n m f e. step_down r.checked n m guarded f e) q

  -- so where there is none, there is no cycle
  pub no_cycle : ((n : ℕ) → n < nodes t → kind_of t n ≡ 9 → ⊥) → (k : ℕ) → Leads guarded t p (size_in plan) k k → ⊥
  no_cycle f k q = let (j, le, e, o) = low q in f j (cycle_in guarded r.checked j o) e

module _ {t p : List ℕ} {plan : List Entry} (r : Ready t p plan) where
  pub lowest_again : {m : Option ℕ} → Finds (OnCycle false t p (size_in plan)) m → Finds (Unguarded t p (size_in plan)) m
  lowest_again {m} f = let l = f.lowest in record {
    lowest = record {
      within = l.within;
      found = λ h. (l.found h).cycle;
      before = λ k h q. let (j, le, e, o) = low false r q in l.before j (omega arith) (record { is = eq-eqb (kind_of t j) 9 e; cycle = o });
      none = λ e k q. let (j, le, i, o) = low false r q in l.none e j (record { is = eq-eqb (kind_of t j) 9 i; cycle = o });
    };
    few = f.few;
  }

pub lowest_except : (t p : List ℕ) (z : ℕ → Size) {m : Option ℕ} → Finds (OnCycle true t p z) m → Finds (ExceptOnCycle t p z) m
lowest_except t p z {m} f = let l = f.lowest in record {
  lowest = record {
    within = l.within;
    found = λ h. let w = l.found h in record { is = w.is; cycle = w.cycle };
    before = λ k h w. l.before k h (record { is = w.is; cycle = w.cycle });
    none = λ e k w. l.none e k (record { is = w.is; cycle = w.cycle });
  };
  few = f.few;
}

-- ---- the verdict on cycles, computed and found
module _ {t p : List ℕ} {z : ℕ → Size} (c : Checked t p z) where
  cycle? : (guarded : Bool) (k : ℕ) → k < nodes t → Decides (Leads guarded t p z k k) (leads guarded t p z k k)
  unfolding leads
  cycle? guarded k l = via_decide (graph guarded c) k k

  except? : (k : ℕ) → k < nodes t → Decides (ExceptOnCycle t p z k) ((rule_at t p z k).skips && leads true t p z k k)
  except? k l = record {
    yes = λ e. record {
      is = and_left (rule_at t p z k).skips (leads true t p z k k) e;
      cycle = (cycle? true k l).yes (and_right (rule_at t p z k).skips (leads true t p z k k) e);
    };
    no = λ e w. (cycle? true k l).no (rw w.is at e) w.cycle;
  }

  pub unguarded_is : Lowest (Unguarded t p z) (unguarded t p z)
  unfolding unguarded
  unguarded_is = lowest_of (λ n. leads false t p z n n) (nodes t) c.few (cycle? false) (λ k q. cycle_in false c k q)

  pub except_is : Lowest (ExceptOnCycle t p z) (except_on_cycle t p z)
  unfolding except_on_cycle
  except_is = lowest_of (λ n. (rule_at t p z n).skips && leads true t p z n n) (nodes t) c.few except? (λ k w. cycle_in true c k w.cycle)

  pub cycles_by : {u e : ℕ} → Lowest (Unguarded t p z) u → Lowest (ExceptOnCycle t p z) e
      → pick (ltb u 256) (refused Rule9 u) (pick (ltb e 256) (refused Rule10 e) accepted) ≡ cycles t p z
  unfolding cycles
  cycles_by f h = rw (lowest_one unguarded_is f, lowest_one except_is h)

module _ {t p : List ℕ} {plan : List Entry} (r : Ready t p plan) where
  pub cycles_9 : {u : ℕ} → Finds (Unguarded t p (size_in plan)) (Some u) → refused Rule9 u ≡ cycles t p (size_in plan)
  cycles_9 {u} f = rw (lt-ltb u 256 f.few) at (cycles_by r.checked f.lowest (except_is r.checked))

  module _ (none : Finds (Unguarded t p (size_in plan)) None) where
    pub cycles_10 : {e : ℕ} → Finds (ExceptOnCycle t p (size_in plan)) (Some e) → refused Rule10 e ≡ cycles t p (size_in plan)
    cycles_10 {e} f = rw (lt-ltb e 256 f.few) at (cycles_by r.checked none.lowest f.lowest)

    pub cycles_none : Finds (ExceptOnCycle t p (size_in plan)) None → accepted ≡ cycles t p (size_in plan)
    cycles_none f = cycles_by r.checked none.lowest f.lowest

  pub cycles_no_again : {b : Bool} → (b ≡ false → (n : ℕ) → n < nodes t → kind_of t n ≡ 9 → ⊥) → b ≡ false → accepted ≡ cycles t p (size_in plan)
  cycles_no_again f e = cycles_none (finds_none (no_cycle false r (f e))) (finds_none (λ k w. no_cycle true r (f e) k w.cycle))
