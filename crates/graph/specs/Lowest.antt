-- The lowest node of which something holds. 256 is above every node's number, and says that there is none.
--   Lowest P r       r is the lowest number of which P holds, or 256 where it holds of none
--   lowest test n    the lowest number below n that passes a test, or 256
-- Assumes nothing.
use Rattle.std.specs.Prelude.{◌≡◌, Bool, ℕ, zero, suc, ◌≤◌, ◌<◌, ltb}
use Rattle.numbers.specs.Pick.{pick}

pub record Lowest (P : ℕ → Type 0) (r : ℕ) : Type 0 where
  pub within : r ≤ 256
  pub found : r < 256 → P r
  pub before : (k : ℕ) → k < r → P k → ⊥
  pub none : r ≡ 256 → (k : ℕ) → P k → ⊥

abbrev pub earlier : ℕ → Bool → ℕ → ℕ
earlier m hit n = pick (ltb m 256) m (pick hit n 256)

unfoldable pub lowest : (ℕ → Bool) → ℕ → ℕ
lowest test zero = 256
lowest test (suc n) = earlier (lowest test n) (test n) n
