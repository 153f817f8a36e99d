-- A visit with two parts, or a tag and a part, in the words of a plan.
--   VisitsTwo    both parts may be visited
--   tag_walk      what the walk of a tag and its part meets
--   two_walks     what the walks of both parts meet
-- Assumes nothing.
use Rattle.std.specs.Prelude.{List, ◌∷◌, ◌++◌, ℕ}
use Rattle.grammar.specs.declared.entry.Entry.{Entry}
use Rattle.grammar.specs.Plan.{rule_in}
use Rattle.grammar.specs.declared.kinds.Two.{Two}
use Rattle.grammar.specs.declared.kinds.Tagged.{Tagged}
use Rattle.walk.specs.Walk.{Event, cell, walk}
use Rattle.walk.specs.Plan.{Visits}

abbrev pub VisitsTwo : List Entry → List ℕ → Two → Type 0
VisitsTwo plan p s = Visits plan p s.first s.x × Visits plan p s.second s.y

abbrev pub tag_walk : List Entry → List ℕ → ℕ → ℕ → Tagged → List Event
tag_walk plan p left tag s = cell tag ∷ walk (rule_in plan p) left 0 s.part s.number

abbrev pub two_walks : List Entry → List ℕ → ℕ → Two → List Event
two_walks plan p left s = walk (rule_in plan p) left 0 s.first s.x ++ walk (rule_in plan p) left 0 s.second s.y
