-- Marks on safe nodes, by the facts that the code has.
--   pass_..     the turns of a pass
--   now_marked  a node whose steps are safe is marked
--   Settled     nodes that are settled, rising; settled-..   its turns
--   all_safe_lem    where no node is left, none is on a cycle
-- Assumes nothing.
use Rattle.grammar.specs.declared.entry.Entry.{Entry}
use mathlib.Core.Path.{◌≡◌, sym, ◌∙◌}
use mathlib.Core.Bool.{Bool, true, false, false≢true}
use mathlib.Core.Logic.{⊎_elim}
use mathlib.Core.List.{List}
use Prim.Native.Nat.{ℕ, ◌+◌, ◌≤◌, ◌<◌}
use native.Mathlib.Omega.{arith}
use borrow.Author.Count.{below_more}
use lib.ListN.{get_or, set}
use Rattle.graph.proofs.Marks.{set_only}
use Rattle.graph.proofs.Paths.{to_no_cycle}
use Rattle.grammar.specs.Table.{nodes}
use Rattle.lists.specs.Lists.{every}
use Rattle.grammar.specs.Steps.{steps_of, Step, Unguarded}
use Rattle.grammar.specs.Plan.{size_in, Ready}
use Rattle.lists.proofs.Runs.{every_mem}
use Rattle.cycles.specs.Safe.{is_marked, Safe, SafeMarks, SafePass}
use Rattle.cycles.proofs.Table.{cycle_in}

-- ---- a pass
module _ {t p : List ℕ} {plan : List Entry} where
  -- before the first pass
  pub pass_start : {b : List Bool} {n : ℕ} → ((k : ℕ) → get_or b k false ≡ false) → SafePass t p plan b n n
  pass_start blank = record { marked = record { safe = λ k f. absurd (false≢true (sym (blank k) ∙ f)) }; all = λ e k l. absurd (omega arith) }

  module _ {marks : List Bool} {n left : ℕ} (s : SafePass t p plan marks n left) where
    -- the node is safe, and is marked now or was before
    more : {next : List Bool} → SafeMarks t p plan next → Safe t p plan n → SafePass t p plan next (n + 1) left
    more m here = record { marked = m; all = λ e. below_more _ n (s.all e) here }

    pub pass_marked : get_or marks n false ≡ true → SafePass t p plan marks (n + 1) left
    pass_marked f = more s.marked (s.marked.safe n f)

  -- a node whose steps lead to safe nodes alone is safe
  module _ {marks : List Bool} (n : ℕ) (s : SafeMarks t p plan marks) {b : Bool} (asked : b ≡ every (is_marked marks) (steps_of false t p (size_in plan) n))
      (yes : b ≡ true) where
    stepped : (m : ℕ) → Step false t p (size_in plan) n m → Safe t p plan m
    stepped m i = s.safe m (every_mem (is_marked marks) m (steps_of false t p (size_in plan) n) (sym asked ∙ yes) i)

    here : Safe t p plan n
    here = record { never = to_no_cycle (λ m i. (stepped m i).never) }

    pub now_marked : SafeMarks t p plan (set marks n true)
    now_marked = record { safe = kept }
      where
        kept : (k : ℕ) → get_or (set marks n true) k false ≡ true → Safe t p plan k
        kept k f = ⊎_elim (λ l. s.safe k l) (λ e. rw e here) (set_only marks n k f)

    pub pass_safe : {left : ℕ} → SafePass t p plan marks n left → SafePass t p plan (set marks n true) (n + 1) left
    pass_safe q = record { marked = now_marked; all = λ e. below_more _ n (q.all e) here }

  pub all_safe_lem : {marks : List Bool} {left : ℕ} → Ready t p plan → SafePass t p plan marks (nodes t) left → left ≤ 0 → (n : ℕ)
      → Unguarded t p (size_in plan) n → ⊥
  all_safe_lem r s l n q = (s.all (omega arith) n (cycle_in false r.checked n q)).never n q q

-- ---- nodes that are settled, rising
pub record Settled (t p : List ℕ) (plan : List Entry) (marks : List Bool) (n : ℕ) : Type 0 where
  pub le : n ≤ nodes t
  pub marked : SafeMarks t p plan marks
  pub all : (k : ℕ) → k < n → Safe t p plan k

module _ {t p : List ℕ} {plan : List Entry} where
  pub settled_none : {marks : List Bool} → SafeMarks t p plan marks → Settled t p plan marks 0
  settled_none s = record { le = omega arith; marked = s; all = λ k l. absurd (omega arith) }

  pub settled_more : {marks next : List Bool} {n : ℕ} → Settled t p plan marks n → n < nodes t → SafeMarks t p plan next → get_or next n false ≡ true
      → Settled t p plan next (n + 1)
  settled_more {marks} {next} {n} s l m f = record { le = omega arith; marked = m; all = below_more _ n s.all (m.safe n f) }

  pub settled_all : {marks : List Bool} {n : ℕ} → Ready t p plan → Settled t p plan marks n → nodes t ≤ n → (k : ℕ) → Unguarded t p (size_in plan) k → ⊥
  settled_all r s l k q = (s.all k (omega (arith, cycle_in false r.checked k q))).never k q q
