-- The walk that writes: what it meets, in walk order. "A visit visits the node's parts at one depth more, left to right."
--   Event   a cell, or a visit that has no depth left
--   shown   what a visit shows, given what its parts show
--   walk    what is met from node i at number n, with a depth left
--   cells   the cells among what is met
--   depth   what a start node has
-- `up` is what the shifts above add to the first cell: 0 at the start node.
-- Assumes nothing.
use Rattle.std.specs.Prelude.{List, [], ◌∷◌, ◌++◌, ℕ, zero, suc, ◌+◌}
use Rattle.grammar.specs.Rule.{Item, own, part, Rule}

pub data Event : Type 0 where
  cell : ℕ → Event
  deep : Event

-- go up p m: what part p shows at m
unfoldable pub shown : (ℕ → ℕ → ℕ → List Event) → ℕ → List Item → List Event
shown go up [] = []
shown go up (own c ∷ is) = cell (c + up) ∷ shown go 0 is
shown go up (part p m k ∷ is) = go (up + k) p m ++ shown go 0 is

unfoldable pub walk : (ℕ → Rule) → ℕ → ℕ → ℕ → ℕ → List Event
walk g zero up i n = deep ∷ []
walk g (suc d) up i n = shown (walk g d) up ((g i).items n)

unfoldable pub cells : List Event → List ℕ
cells [] = []
cells (cell c ∷ es) = c ∷ cells es
cells (deep ∷ es) = cells es

-- "Depth is at most 200."
abbrev pub depth : ℕ
depth = 200
