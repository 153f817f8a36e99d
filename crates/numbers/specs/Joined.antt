-- A joined number in one machine word. "Numbers inside the walk are exact: under except a part may have number 2^62 while
-- the case's own number is 2^62 - 1". Each visit of a walk takes off at most one, and a walk is at most 200 visits deep.
--   limit   the bound below which a joined number is kept exactly
--   capped  the number itself below the limit, none from there on
--   word_of  the same in one word
-- Assumes nothing.
use Rattle.std.specs.Prelude.{ℕ, ◌+◌, ◌^◌, ltb, Option, Some, None, unwrap_or}
use Rattle.numbers.specs.Pick.{pick}

abbrev pub limit : ℕ
limit = 2 ^ 62 + 256

unfoldable pub capped : ℕ → Option ℕ
capped n = pick (ltb n limit) (Some n) None

abbrev pub word_of : Option ℕ → ℕ
word_of n = unwrap_or n (2 ^ 63)
