-- The nodes that a node names, as the code hands them on.
--   named    the nodes
-- Assumes nothing.
use Rattle.std.specs.Prelude.{Option, Some, None, List, [], ◌∷◌, ◌++◌, ℕ}
use Rattle.grammar.specs.declared.named.Named.{Named}

abbrev pub maybe : Option ℕ → List ℕ
maybe None = []
maybe (Some a) = a ∷ []

abbrev pub named : Named → List ℕ
named r = maybe r.first ++ (maybe r.second ++ r.rest.now)
