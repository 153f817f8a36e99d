-- A row cut into cases, one for each number.
--   Cut       each number may be asked for, and its case stands at its place
--   joined    the cases one after another, with no marks between
--   hand_out   what a reader says of a cut row from a place on: each item, its cells and the place after it, and then what comes last
--   asks      what a reader says, asked so many times from a place on
-- Assumes nothing.
use Rattle.std.specs.Prelude.{List, [], ◌∷◌, ◌++◌, ℕ, zero, suc, ◌+◌, length}
use Rattle.grammar.specs.Rule.{Rule}
use Rattle.walk.specs.Room.{Case}
use Rattle.checked.specs.Fits.{Asked}
use Rattle.rows.specs.Reader.{Reply, hands}
use Rattle.rows.specs.declared.reader.Stride.{Stride}

pub data Cut (g : ℕ → Rule) (i : ℕ) : List ℕ → List (List ℕ) → Type 0 where
  none : Cut g i [] []
  item : {n : ℕ} {ns : List ℕ} {cs : List ℕ} {css : List (List ℕ)} → Asked (g i).size n → Case g i n cs → Cut g i ns css → Cut g i (n ∷ ns) (cs ∷ css)

unfoldable pub joined : List (List ℕ) → List ℕ
joined [] = []
joined (cs ∷ css) = cs ++ joined css

-- what comes last is the row's end or a refusal, and the reader stays
unfoldable pub hand_out : ℕ → List ℕ → List (List ℕ) → Reply → List Stride
hand_out at [] css last = record { answer = last; at = at } ∷ []
hand_out at (n ∷ ns) [] last = record { answer = last; at = at } ∷ []
hand_out at (n ∷ ns) (cs ∷ css) last = record { answer = hands n (length cs); at = at + length cs } ∷ hand_out (at + length cs) ns css last

unfoldable pub asks : (ℕ → Stride) → ℕ → ℕ → List Stride
asks next zero at = []
asks next (suc times) at = next at ∷ asks next times (next at).at
