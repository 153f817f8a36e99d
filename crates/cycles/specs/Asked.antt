-- From which nodes a cycle is looked for.
--   asked      for refusal 10 (guarded) an except, for 9 an again
--   OnCycle    such a node, and a cycle from it
--   Marks      a step of the search
-- Assumes nothing.
use Rattle.grammar.specs.declared.entry.Entry.{Entry}
use Rattle.std.specs.Prelude.{◌≡◌, Bool, true, List, ℕ, eqb}
use Rattle.numbers.specs.Pick.{pick}
use Rattle.numbers.specs.Size.{Size}
use Rattle.grammar.specs.Table.{kind_of}
use Rattle.grammar.specs.Nodes.{rule_at}
use Rattle.graph.specs.Marks.{marked}
use Rattle.grammar.specs.Steps.{Leads}
use Rattle.grammar.specs.Shown.{steps_in}

abbrev pub asked : Bool → List ℕ → List ℕ → (ℕ → Size) → ℕ → Bool
asked guarded t p z n = pick guarded (rule_at t p z n).skips (eqb (kind_of t n) 9)

pub record OnCycle (guarded : Bool) (t p : List ℕ) (z : ℕ → Size) (n : ℕ) : Type 0 where
  pub is : asked guarded t p z n ≡ true
  pub cycle : Leads guarded t p z n n

-- the nodes that node n names are marked too
abbrev pub Marks : Bool → List ℕ → List ℕ → List Entry → ℕ → List Bool → List Bool → Type 0
Marks guarded t p plan n old last = last ≡ marked old (steps_in guarded t p plan n)
