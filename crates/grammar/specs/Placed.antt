-- The number that a cell stands for by itself, in the code's words.
--   counted   a number below a count
--   placed    a word's place among others
-- Assumes nothing.
use Rattle.std.specs.Prelude.{Option, Some, None, List, ℕ, ltb}
use Rattle.numbers.specs.Pick.{pick}
use Rattle.lists.specs.Lists.{has}
use Rattle.grammar.specs.kinds.Pool.{place_of}

abbrev pub counted : ℕ → ℕ → Option ℕ
counted a c = pick (ltb c a) (Some c) None

abbrev pub placed : ℕ → List ℕ → Option ℕ
placed c ws = pick (has c ws) (Some (place_of c ws)) None
