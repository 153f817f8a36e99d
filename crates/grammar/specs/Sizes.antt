-- The sizes of a table's nodes, rising.
--   Scan       the sizes of the nodes so far, or the first refusal and its node
--   scan       of the nodes below n
--   size_at     the size of a node among them
--   sizes      of a whole table whose nodes pass
--   rules_of    the rules of its nodes
-- Assumes nothing.
use Rattle.std.specs.Prelude.{List, [], ◌∷◌, ◌++◌, ℕ, zero, suc, get_or}
use Rattle.numbers.specs.Size.{Size, finite}
use Rattle.grammar.specs.Table.{nodes}
use Rattle.grammar.specs.Checks.{Row, fault, sized}
use Rattle.grammar.specs.Rule.{Rule}
use Rattle.grammar.specs.Nodes.{rule_at, row_at}
use Rattle.grammar.specs.declared.refusal.Refusal.{Refusal}

pub data Scan : Type 0 where
  passed : List Size → Scan
  faulty : Refusal → ℕ → Scan

abbrev pub size_at : List Size → ℕ → Size
size_at zs n = get_or zs n (finite 0)

abbrev pub noted : ℕ → List Size → Row → Scan
noted n zs (fault r) = faulty r n
noted n zs (sized s) = passed (zs ++ (s ∷ []))

unfoldable pub onward : List ℕ → List ℕ → ℕ → Scan → Scan
onward t p n (passed zs) = noted n zs (row_at t p (size_at zs) n)
onward t p n (faulty r k) = faulty r k

-- "then nodes rising"
unfoldable pub scan : List ℕ → List ℕ → ℕ → Scan
scan t p zero = passed []
scan t p (suc n) = onward t p n (scan t p n)

abbrev pub sizes_in : Scan → List Size
sizes_in (passed zs) = zs
sizes_in (faulty r k) = []

unfoldable pub sizes : List ℕ → List ℕ → List Size
sizes t p = sizes_in (scan t p (nodes t))

-- the rules of a table's nodes, by those sizes
abbrev pub rules_of : List ℕ → List ℕ → ℕ → Rule
rules_of t p = rule_at t p (size_at (sizes t p))
