-- What a search for the lowest node of a kind answers.
--   Finds P r   r is the lowest number of which P holds, below 256, or none where it holds of none
-- Assumes nothing.
use Rattle.std.specs.Prelude.{Option, ℕ, ◌<◌, unwrap_or, IfSome}
use Rattle.graph.specs.Lowest.{Lowest}

pub record Finds (P : ℕ → Type 0) (r : Option ℕ) : Type 0 where
  pub lowest : Lowest P (unwrap_or r 256)
  pub few : IfSome r (λ n. n < 256)
