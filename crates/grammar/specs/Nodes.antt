-- What 01's kinds make of a table's nodes.
--   node_with, node_at   what a row looks at: of node n with words a and b, and of node n with its own words
--   rule_at    the rule of node n; z has the sizes
--   row_at     the row of node n: the spare words, its kind's checks, its size
-- Assumes nothing.
use Rattle.std.specs.Prelude.{List, ◌∷◌, ℕ}
use Rattle.numbers.specs.Size.{Size}
use Rattle.grammar.specs.Table.{kind_of, a_of, b_of, nodes}
use Rattle.grammar.specs.Checks.{asks, Row, row}
use Rattle.grammar.specs.declared.refusal.Refusal.TheVariants.{SpareWord}
use Rattle.grammar.specs.Rule.{Rule}
use Rattle.grammar.specs.Kind.{Node, before, spare}
use Rattle.grammar.specs.kinds.{kind_in}

abbrev pub node_with : List ℕ → List ℕ → ℕ → ℕ → ℕ → Node
node_with t p n a b = record { own = n; a = a; b = b; kind = kind_of t; nodes = nodes t; pool = p }

abbrev pub node_at : List ℕ → List ℕ → ℕ → Node
node_at t p n = node_with t p n (a_of t n) (b_of t n)

unfoldable pub rule_at : List ℕ → List ℕ → (ℕ → Size) → ℕ → Rule
rule_at t p z n = (kind_in (kind_of t n)).rule (a_of t n) (b_of t n) p (before z n)

unfoldable pub row_at : List ℕ → List ℕ → (ℕ → Size) → ℕ → Row
row_at t p z n =
    let k = kind_in (kind_of t n) in
    row (asks (spare k (a_of t n) (b_of t n)) SpareWord ∷ k.checks (node_at t p n) (before z n)) (rule_at t p z n).size
