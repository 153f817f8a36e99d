-- Marks on nodes that come to no cycle of refusal 9.
--   is_marked    a node is marked
--   Safe        no path from a node comes to a cycle, where neither ever steps to the second part of an or
--   SafeMarks   the marked nodes are safe
--   SafePass    after a pass over the nodes below n that left so many unmarked
-- Assumes nothing.
use Rattle.grammar.specs.declared.entry.Entry.{Entry}
use Rattle.std.specs.Prelude.{◌≡◌, Bool, true, false, List, ℕ, ◌<◌, get_or}
use Rattle.grammar.specs.Steps.{Leads, Unguarded}
use Rattle.grammar.specs.Plan.{size_in}

abbrev pub is_marked : List Bool → ℕ → Bool
is_marked marks n = get_or marks n false

pub record Safe (t p : List ℕ) (plan : List Entry) (n : ℕ) : Type 0 where
  pub never : (m : ℕ) → Leads false t p (size_in plan) n m → Unguarded t p (size_in plan) m → ⊥

pub record SafeMarks (t p : List ℕ) (plan : List Entry) (marks : List Bool) : Type 0 where
  pub safe : (k : ℕ) → is_marked marks k ≡ true → Safe t p plan k

pub record SafePass (t p : List ℕ) (plan : List Entry) (marks : List Bool) (n left : ℕ) : Type 0 where
  pub marked : SafeMarks t p plan marks
  pub all : left ≡ 0 → (k : ℕ) → k < n → Safe t p plan k
