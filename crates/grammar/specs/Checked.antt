-- What is known of a table whose nodes have passed.
--   Checked    every check of every node holds, the rules keep the law, and the sizes are theirs
-- Assumes nothing.
use Rattle.std.specs.Prelude.{◌≡◌, List, ℕ, ◌*◌, ◌≤◌, ◌<◌, length}
use Rattle.numbers.specs.Size.{Size}
use Rattle.grammar.specs.Table.{kind_of, nodes}
use Rattle.grammar.specs.Law.{Fit, Holds, Good}
use Rattle.grammar.specs.Kind.{before}
use Rattle.grammar.specs.kinds.{kind_in}
use Rattle.grammar.specs.Nodes.{node_at, rule_at}

-- z has the sizes
pub record Checked (t p : List ℕ) (z : ℕ → Size) : Type 0 where
  pub whole : length t ≡ 3 * nodes t
  pub few : nodes t ≤ 256
  pub holds : (n : ℕ) → n < nodes t → Holds ((kind_in (kind_of t n)).checks (node_at t p n) (before z n))
  pub good : Good z (nodes t) (rule_at t p z)
  pub fit : (n : ℕ) → n < nodes t → Fit (z n)
