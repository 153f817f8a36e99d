-- The graph of a table, and its cycles. z has the nodes' sizes.
--   steps_of        the nodes that a node names; with `guarded` false, without those to which a step guards a cycle
--   Leads          a path of one or more steps: no bound on its length
--   Unguarded      "a cycle that never steps to the second part of an or"
--   ExceptOnCycle  "an except on any cycle"
-- Assumes nothing.
use Rattle.std.specs.Prelude.{◌≡◌, Bool, true, false, ℕ}
use mathlib.Core.List.{List, Memᴰ}
use Rattle.numbers.specs.Size.{Size}
use Rattle.graph.specs.Paths.{Path}
use Rattle.grammar.specs.Nodes.{rule_at}

-- "Steps of the graph go from a node to the nodes it names": which, its rule says
abbrev pub steps_of : Bool → List ℕ → List ℕ → (ℕ → Size) → ℕ → List ℕ
steps_of guarded t p z n = (rule_at t p z n).steps guarded

abbrev pub Step : Bool → List ℕ → List ℕ → (ℕ → Size) → ℕ → ℕ → Type 0
Step guarded t p z n m = Memᴰ m (steps_of guarded t p z n)

abbrev pub Leads : Bool → List ℕ → List ℕ → (ℕ → Size) → ℕ → ℕ → Type 0
Leads guarded t p z = Path (Step guarded t p z)

abbrev pub Unguarded : List ℕ → List ℕ → (ℕ → Size) → ℕ → Type 0
Unguarded t p z n = Leads false t p z n n

pub record ExceptOnCycle (t p : List ℕ) (z : ℕ → Size) (n : ℕ) : Type 0 where
  pub is : (rule_at t p z n).skips ≡ true
  pub cycle : Leads true t p z n n
