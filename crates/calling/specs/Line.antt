-- The lines of a text.
--   readable   an input as a whole: not too long, and each line ended by LF
--   word_size   how many bytes stand before the first space or LF
-- Assumes nothing.
use Rattle.std.specs.Prelude.{Bool, true, false, ◌&&◌, ◌||◌, List, [], ◌∷◌, ℕ, ◌+◌, eqb, leb, length, get_or}

-- calls.md: "at most 4,194,304 bytes"; "Input longer than the limit, or whose last line has no LF, prints only `unreadable`."
abbrev pub most_bytes : ℕ
most_bytes = 4194304

unfoldable pub readable : List ℕ → Bool
readable [] = true
readable (b ∷ bs) = leb (length (b ∷ bs)) most_bytes && eqb (get_or (b ∷ bs) (length bs) 0) 10

-- a space or LF
abbrev pub ends : ℕ → Bool
ends b = eqb b 32 || eqb b 10

unfoldable pub word_size : List ℕ → ℕ
word_size [] = 0
word_size (b ∷ bs) = elim (ends b) [ true ↦ 0 | false ↦ 1 + word_size bs ]
