-- The buffer that is lent to a call. calls.md: "A lent buffer starts with the word at place i being 18446744073709551615 - i"
--   start_word     the word that a place has before the call
--   start_words    so many of them, from a place on
--   changed       whether one of the words from a place on is not that place's start word
-- Assumes nothing.
use Rattle.std.specs.Prelude.{Bool, false, not, ◌||◌, List, [], ◌∷◌, ℕ, zero, suc, ◌-◌, eqb}

abbrev pub start_word : ℕ → ℕ
start_word place = 18446744073709551615 - place

unfoldable pub start_words : ℕ → ℕ → List ℕ
start_words place zero = []
start_words place (suc count) = start_word place ∷ start_words (suc place) count

unfoldable pub changed : ℕ → List ℕ → Bool
changed place [] = false
changed place (w ∷ ws) = not (eqb w (start_word place)) || changed (suc place) ws
