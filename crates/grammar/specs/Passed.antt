-- A table whose nodes have passed, by its plan: so are a table and a plan that were weighed without a refusal (`AllWeighed`).
--   passes   no row of the table is refused
--   AllPassed   the lengths are as they must be, no row is refused, and the plan holds the nodes with their sizes
-- Assumes nothing.
use Rattle.std.specs.Prelude.{◌≡◌, Bool, true, false, List, ℕ, ◌≤◌, ◌<◌, length}
use Rattle.numbers.specs.Size.{code_of}
use Rattle.grammar.specs.Table.{kind_of, a_of, b_of, nodes, lengths}
use Rattle.grammar.specs.Sizes.{Scan, passed, faulty, size_at, scan, sizes}
use Rattle.grammar.specs.Plan.{size_word, kind_word, a_word, b_word}
use Rattle.grammar.specs.declared.entry.Entry.{Entry}

abbrev pub is_passed : Scan → Bool
is_passed (passed zs) = true
is_passed (faulty r k) = false

abbrev pub passes : List ℕ → List ℕ → Bool
passes t p = is_passed (scan t p (nodes t))

pub record AllPassed (t p : List ℕ) (plan : List Entry) : Type 0 where
  pub lengths_fit : lengths t p ≡ true
  pub none_refused : passes t p ≡ true
  pub long : nodes t ≤ length plan
  pub sizes : (k : ℕ) → size_word plan k ≡ code_of (size_at (sizes t p) k)
  pub words : (k : ℕ) → k < nodes t → (kind_word plan k ≡ kind_of t k) × (a_word plan k ≡ a_of t k) × (b_word plan k ≡ b_of t k)
