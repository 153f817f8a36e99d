-- A number's shortest decimal text.
--   decimal    its digits, the most significant first
-- Assumes nothing.
use Rattle.std.specs.Prelude.{true, false, List, [], ◌∷◌, ◌++◌, ℕ, zero, suc, ◌+◌, ◌/◌, ◌%◌, ltb}
use Rattle.texts.specs.Ascii.{digit0}

-- a digit, or the text of the tenth and then the last digit; with at most f digits, and n + 1 are always enough
unfoldable pub decimal_by : ℕ → ℕ → List ℕ
decimal_by zero n = []
decimal_by (suc f) n = elim (ltb n 10) [ true ↦ (digit0 + n) ∷ [] | false ↦ decimal_by f (n / 10) ++ ((digit0 + n % 10) ∷ []) ]

unfoldable pub decimal : ℕ → List ℕ
decimal n = decimal_by (suc n) n
