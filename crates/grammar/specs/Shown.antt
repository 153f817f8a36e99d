-- What a visit shows, as the code hands it on.
--   ShowsTwo      two parts, each at a number
--   ShowsTagged   a tag, and a part at a number
--   steps_in       the nodes that a node names, by the sizes of a plan
--   seconds_in     the nodes that a dep's words in the pool name, by the plan's count of firsts; seconds_sized their sizes
--   ShowsDep      of a dep of any size
-- Assumes nothing.
use Rattle.grammar.specs.declared.entry.Entry.{Entry}
use Rattle.std.specs.Prelude.{◌≡◌, Bool, List, [], ◌∷◌, ℕ, take, drop}
use Rattle.numbers.specs.Size.{Size}
use Rattle.numbers.specs.Dep.{Seconds}
use Rattle.grammar.specs.Rule.{Item, own, part}
use Rattle.grammar.specs.Steps.{steps_of}
use Rattle.grammar.specs.Plan.{size_in}
use Rattle.grammar.specs.Seconds.{firsts}
use Rattle.grammar.specs.kinds.Dep.{seconds_of, dep_rule}
use Rattle.grammar.specs.declared.kinds.Two.{Two}
use Rattle.grammar.specs.declared.kinds.Tagged.{Tagged}

abbrev pub ShowsTwo : List Item → Two → Type 0
ShowsTwo items r = items ≡ part r.first r.x 0 ∷ part r.second r.y 0 ∷ []

abbrev pub ShowsTagged : List Item → Tagged → Type 0
ShowsTagged items r = items ≡ own r.tag ∷ part r.part r.number 0 ∷ []

abbrev pub steps_in : Bool → List ℕ → List ℕ → List Entry → ℕ → List ℕ
steps_in guarded t p plan n = steps_of guarded t p (size_in plan) n

abbrev pub seconds_in : List Entry → List ℕ → ℕ → ℕ → List ℕ
seconds_in plan p a b = take (firsts plan a) (drop b p)

abbrev pub seconds_sized : List Entry → List ℕ → ℕ → ℕ → Seconds
seconds_sized plan p a b = seconds_of (size_in plan) (seconds_in plan p a b)

abbrev pub ShowsDep : List Entry → List ℕ → ℕ → ℕ → ℕ → Two → Type 0
ShowsDep plan p a b n r = (s : Size) → ShowsTwo ((dep_rule s (seconds_sized plan p a b) a (seconds_in plan p a b)).items n) r
