-- Paths in a graph whose steps are a relation E.
--   Path E n m    one or more steps lead from n to m: no bound on how many
--   Decides P r   the test r says whether P holds
-- Assumes nothing.
use Rattle.std.specs.Prelude.{◌≡◌, Bool, true, false, ℕ}

pub data Path (E : ℕ → ℕ → Type 0) : ℕ → ℕ → Type 0 where
  one : {n m : ℕ} → E n m → Path E n m
  more : {n k m : ℕ} → E n k → Path E k m → Path E n m

pub record Decides (P : Type 0) (r : Bool) : Type 0 where
  pub yes : r ≡ true → P
  pub no : r ≡ false → P → ⊥
