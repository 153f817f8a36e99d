-- What one reader answers, asked again and again.
--   asked   the answers, in 01's values: each from the place that the one before it left
--   Asked   those of four asks, from the front of a row
-- Assumes nothing.
use Rattle.std.specs.Prelude.{◌≡◌, List, [], ◌∷◌, ℕ, zero, suc}
use Rattle.rows.specs.Reader.{next_of, after_of, NextAnswer, next_answer, next_says}
use Rattle.reader.specs.declared.Four.{Four}

unfoldable pub asked : List ℕ → List ℕ → ℕ → List ℕ → ℕ → ℕ → List NextAnswer
asked t p i row at zero = []
asked t p i row at (suc asks) = next_says t p i row at ∷ asked t p i row (after_of at (next_of t p i row at)) asks

abbrev pub Asked : List ℕ → List ℕ → ℕ → List ℕ → Four → Type 0
Asked t p i row r = ◌≡◌ {A = List NextAnswer}
    (next_answer r.first ∷ next_answer r.second ∷ next_answer r.third ∷ next_answer r.fourth ∷ []) (asked t p i row 0 4)
