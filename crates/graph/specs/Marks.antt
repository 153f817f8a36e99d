-- Marks on nodes: a list with a yes or no for each node, and no past its end.
--   marked m xs   the marks m with a yes at each node of a list
--   Marks P m     the marks m stand at just the nodes of which P holds
-- Assumes nothing.
use Rattle.std.specs.Prelude.{◌≡◌, Bool, true, false, List, [], ◌∷◌, ℕ, get_or, set}

unfoldable pub marked : List Bool → List ℕ → List Bool
marked m [] = m
marked m (x ∷ xs) = marked (set m x true) xs

pub record Marks (P : ℕ → Type 0) (m : List Bool) : Type 0 where
  pub sound : (k : ℕ) → get_or m k false ≡ true → P k
  pub complete : (k : ℕ) → P k → get_or m k false ≡ true
