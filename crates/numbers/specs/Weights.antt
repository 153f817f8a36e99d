-- How many tails a tuple may have, as its code keeps them.
--   weight    of a part with those behind, as r has been met or not
--   Weights   the ways of each count of parts, from none on
-- Assumes nothing.
use Rattle.std.specs.Prelude.{◌≡◌, Bool, true, false, List, ℕ, ◌<◌, length, get_or}
use Rattle.numbers.specs.Tuple.{ways}
use Rattle.numbers.specs.declared.tuple.Ways.{Ways}

abbrev pub weight : Ways → Bool → ℕ
weight w true = w.met
weight w false = w.unmet

-- where there is none
abbrev pub nowhere : Ways
nowhere = record { met = 0; unmet = 0 }

pub record Weights (r : ℕ) (all : List Ways) : Type 0 where
  pub ways_met : (m : ℕ) → m < length all → (get_or all m nowhere).met ≡ ways true r m
  pub ways_unmet : (m : ℕ) → m < length all → (get_or all m nowhere).unmet ≡ ways false r m
