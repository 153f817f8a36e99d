-- Tests of a list's words.
--   has     whether a word is in it
--   every   whether a test holds of each
-- Assumes nothing.
use Rattle.std.specs.Prelude.{Bool, true, false, ◌&&◌, ◌||◌, List, [], ◌∷◌, ℕ, eqb}

unfoldable pub has : ℕ → List ℕ → Bool
has b [] = false
has b (x ∷ xs) = eqb b x || has b xs

unfoldable pub every : (ℕ → Bool) → List ℕ → Bool
every test [] = true
every test (x ∷ xs) = test x && every test xs
