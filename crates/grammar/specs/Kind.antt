-- A kind of node: everything that 01 says of it, in one place.
--   Node     what a row looks at but for sizes: the node's own number and words, the nodes' kind words, the pool
--   Kind     which of a and b it uses, its checks in their order, and its rule, by a, b and the pool; z has the sizes of the lower nodes
--   lower    "Lower" means a node number below the node's own
--   before   the sizes of the nodes below n: a row looks at no others
--   spare    "a word not used is zero"
-- Assumes nothing.
use Rattle.std.specs.Prelude.{Bool, ◌&&◌, ◌||◌, List, ℕ, eqb, ltb}
use Rattle.numbers.specs.Pick.{pick}
use Rattle.numbers.specs.Size.{Size, finite}
use Rattle.grammar.specs.Checks.{Check}
use Rattle.grammar.specs.Rule.{Rule}

pub record Node : Type 0 where
  pub own : ℕ
  pub a : ℕ
  pub b : ℕ
  pub kind : ℕ → ℕ
  pub nodes : ℕ
  pub pool : List ℕ

pub record Kind : Type 0 where
  pub uses_a : Bool
  pub uses_b : Bool
  pub checks : Node → (ℕ → Size) → List Check
  pub rule : ℕ → ℕ → List ℕ → (ℕ → Size) → Rule

abbrev pub lower : Node → ℕ → Bool
lower v a = ltb a v.own

abbrev pub before : (ℕ → Size) → ℕ → ℕ → Size
before z n i = pick (ltb i n) (z i) (finite 0)

abbrev pub spare : Kind → ℕ → ℕ → Bool
spare k a b = (k.uses_a || eqb a 0) && (k.uses_b || eqb b 0)
