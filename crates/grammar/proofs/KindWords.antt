-- A node's kind, by its word.
--   row_unknown, row_goes_on, row_spare   a row of a kind that is not known, and by that test
--   weighed_unknown                       the same of a word and any node
-- Assumes nothing.
use mathlib.Core.Path.{◌≡◌, ap}
use mathlib.Core.Bool.{Bool, true, false}
use mathlib.Core.List.{List, ◌∷◌}
use Rattle.std.specs.Prelude.{Err}
use Prim.Native.Nat.{ℕ, ◌≤◌}
use lib.ListN.{length}
use Rattle.numbers.specs.Size.{Size}
use Rattle.grammar.specs.Table.{kind_of, a_of, b_of}
use Rattle.grammar.specs.Checks.{Check, asks, row}
use Rattle.grammar.specs.Kind.{Node, spare}
use Rattle.grammar.specs.kinds.{kinds, kind_in}
use Rattle.grammar.specs.Nodes.{node_at, rule_at, row_at}
use Rattle.grammar.specs.Plan.{coded, weighed}
use Rattle.grammar.specs.declared.refusal.Refusal.{Refusal}
use Rattle.grammar.specs.declared.refusal.Refusal.TheVariants.{Kind as NoKind, SpareWord}
use Rattle.grammar.proofs.Known.{past_unknown}

-- ---- the row of node n
passes : (q : Bool) (r : Refusal) (cs : List Check) (s : Size) → q ≡ true → row cs s ≡ row (asks q r ∷ cs) s
unfolding row
passes q r cs s e = rw e

fails : (q : Bool) (r : Refusal) (cs : List Check) (s : Size) → q ≡ false → Err r ≡ coded (row (asks q r ∷ cs) s)
unfolding row coded
fails q r cs s e = rw e

module _ (t p : List ℕ) (z : ℕ → Size) (n : ℕ) where
  pub row_goes_on : spare (kind_in (kind_of t n)) (a_of t n) (b_of t n) ≡ true → weighed (kind_in (kind_of t n)) (node_at t p n) z ≡ coded (row_at t p z n)
  unfolding weighed row_at rule_at
  row_goes_on e = ap coded (passes _ SpareWord _ _ e)

  -- nothing is spare of a kind that is not known, and its one check fails
  pub row_unknown : length kinds ≤ kind_of t n → Err NoKind ≡ coded (row_at t p z n)
  unfolding row_at rule_at row coded
  row_unknown l = rw (past_unknown (kind_of t n) l)

  pub row_spare : spare (kind_in (kind_of t n)) (a_of t n) (b_of t n) ≡ false → Err SpareWord ≡ coded (row_at t p z n)
  unfolding row_at
  row_spare e = fails _ SpareWord _ _ e

-- the row of a kind's word that is not known, whatever the node
pub weighed_unknown : (k : ℕ) (v : Node) (z : ℕ → Size) → length kinds ≤ k → Err NoKind ≡ weighed (kind_in k) v z
unfolding weighed row coded
weighed_unknown k v z l = rw (past_unknown k l)
