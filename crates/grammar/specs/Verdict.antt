-- The whole check. 01: "word and pool lengths (1, node 0); then nodes rising, kind known (2) before the row above; then cycles."
--   leads       whether one node leads to another, as a test: `proofs` has the theorem that it agrees with paths of any length
--   unguarded, except_on_cycle   the lowest node that breaks rule 9, rule 10
--   verdict     accepted, or the refusal and the node
--   answer      01's number and node of a verdict; check_says those of a table's
-- Assumes nothing.
use Rattle.std.specs.Prelude.{Bool, true, false, ◌&&◌, List, ℕ, ltb, Ok, Err}
use Rattle.numbers.specs.Pick.{pick}
use Rattle.numbers.specs.Size.{Size}
use Rattle.graph.specs.Ways.{via}
use Rattle.graph.specs.Lowest.{lowest}
use Rattle.grammar.specs.Table.{nodes, lengths}
use Rattle.grammar.specs.Sizes.{Scan, passed, faulty, size_at, scan}
use Rattle.grammar.specs.Nodes.{rule_at}
use Rattle.grammar.specs.Steps.{steps_of}
use Rattle.grammar.specs.Refusals.{number_of, Verdict, accepted, refused}
use Rattle.grammar.specs.declared.refusal.Refusal.TheVariants.{Length, Unguarded, ExceptOnCycle}

unfoldable pub leads : Bool → List ℕ → List ℕ → (ℕ → Size) → ℕ → ℕ → Bool
leads guarded t p z a b = via (steps_of guarded t p z) (nodes t) a b

-- "naming the lowest node on such a cycle"
unfoldable pub unguarded : List ℕ → List ℕ → (ℕ → Size) → ℕ
unguarded t p z = lowest (λ n. leads false t p z n n) (nodes t)

-- "naming the lowest such except"
unfoldable pub except_on_cycle : List ℕ → List ℕ → (ℕ → Size) → ℕ
except_on_cycle t p z = lowest (λ n. (rule_at t p z n).skips && leads true t p z n n) (nodes t)

-- any 9 comes before any 10
abbrev pub ruled : ℕ → ℕ → Verdict
ruled u e = pick (ltb u 256) (refused Unguarded u) (pick (ltb e 256) (refused ExceptOnCycle e) accepted)

unfoldable pub cycles : List ℕ → List ℕ → (ℕ → Size) → Verdict
cycles t p z = ruled (unguarded t p z) (except_on_cycle t p z)

unfoldable pub settled : List ℕ → List ℕ → Scan → Verdict
settled t p (passed zs) = cycles t p (size_at zs)
settled t p (faulty r k) = refused r k

unfoldable pub verdict : List ℕ → List ℕ → Verdict
verdict t p = pick (lengths t p) (settled t p (scan t p (nodes t))) (refused Length 0)

-- ---- 01's number and node: "A refusal returns its number, a node for 1 to 10"
pub record Answer : Type 0 where
  pub refusal : ℕ
  pub node : ℕ

unfoldable pub answer : Verdict → Answer
answer (Ok u) = record { refusal = 0; node = 0 }
answer (Err e) = record { refusal = number_of e.refusal; node = e.node }

unfoldable pub check_says : List ℕ → List ℕ → Answer
check_says t p = answer (verdict t p)
