-- `cycles::has_again` looks for a node of kind again.
-- Assumes nothing.
use mathlib.Core.Path.{◌≡◌}
use Prim.Native.Nat.{ℕ, ◌<◌}
use Rattle.grammar.specs.Table.{kind_of}
use Rattle.cycles.proofs.has_again.Given as goal

abbrev pub invariant-loop-n : goal.invariant-loop-n
invariant-loop-n l = (k : ℕ) → k < l.n → kind_of l.w.table k ≡ 9 → ⊥
