-- Worked cases of 01, "Cases on both sides", computed from the definitions.
--   marked, worked         the thirteen that 01 marks P, as one table with one theorem
--   others, others_worked  some of the rest
-- Assumes nothing.
use mathlib.Core.Path.{◌≡◌, refl}
use mathlib.Core.List.{List, [], ◌∷◌, map}
use Prim.Native.Nat.{ℕ, ◌+◌}
use Rattle.grammar.specs.Sizes.{rules_of}
use Rattle.walk.specs.Walk.{walk, depth}
use Rattle.walk.specs.Walk
use Rattle.walk.proofs.Opened.{walking}
use Rattle.checked.specs.Opening.{opening}
use Rattle.checked.specs.Item.{front_of, whole_of}
use Rattle.checked.specs.Fits.{fitted}
use Rattle.cases.specs.Write.{writes, WriteAnswer, written, write_says}
use Rattle.cases.specs.Read.{reads, ReadAnswer, read_of, read_says}
use Rattle.promises.proofs.Worked.{L}

-- a table, its pool, a start node, a number and its cells; or the cells, the refusal's number and the number found
pub data Worked : Type 0 where
  writes_as : List ℕ → List ℕ → ℕ → ℕ → List ℕ → Worked
  reads_as : List ℕ → List ℕ → ℕ → List ℕ → ℕ → ℕ → Worked

-- refusal, count and cells; refusal and number
abbrev writing : WriteAnswer → List ℕ → List ℕ
writing w cs = w.refusal ∷ w.cells ∷ cs

abbrev reading : ReadAnswer → List ℕ
reading r = r.refusal ∷ r.number ∷ []

abbrev count : List ℕ → ℕ
count [] = 0
count (c ∷ cs) = count cs + 1

unfoldable pub asked : Worked → List ℕ
asked (writes_as t p i n cs) = writing (write_says t p i n 65536) (Walk.cells (walk (rules_of t p) depth 0 i n))
asked (reads_as t p i cs r n) = reading (read_says t p i cs)

unfoldable pub expected : Worked → List ℕ
expected (writes_as t p i n cs) = 0 ∷ count cs ∷ cs
expected (reads_as t p i cs r n) = r ∷ n ∷ []

-- two nats in cons; below 2 with below 3; below 2 with below 2; or of below 2 and nats; nats except 13
abbrev pub nats_pair : List ℕ
nats_pair = 1 ∷ 0 ∷ 0 ∷ 5 ∷ 0 ∷ 0 ∷ []

abbrev pub two_three : List ℕ
two_three = 0 ∷ 2 ∷ 0 ∷ 0 ∷ 3 ∷ 0 ∷ 5 ∷ 0 ∷ 1 ∷ []

abbrev pub two_two : List ℕ
two_two = 0 ∷ 2 ∷ 0 ∷ 5 ∷ 0 ∷ 0 ∷ []

abbrev pub two_or_nats : List ℕ
two_or_nats = 0 ∷ 2 ∷ 0 ∷ 1 ∷ 0 ∷ 0 ∷ 4 ∷ 0 ∷ 1 ∷ []

abbrev pub all_but_13 : List ℕ
all_but_13 = 1 ∷ 0 ∷ 0 ∷ 7 ∷ 0 ∷ 13 ∷ []

-- dep of below 2 with seconds below 3, below 2
abbrev pub chosen_of : List ℕ
chosen_of = 0 ∷ 2 ∷ 0 ∷ 0 ∷ 3 ∷ 0 ∷ 6 ∷ 0 ∷ 0 ∷ []

-- "Cases marked P", each with what 01 says of it: the last has a reading too
abbrev pub marked : List (List Worked)
marked =
    (writes_as L [] 5 0 (0 ∷ 0 ∷ []) ∷ [])
    ∷ (writes_as L [] 5 1 (1 ∷ 0 ∷ 0 ∷ 0 ∷ []) ∷ [])
    ∷ (writes_as L [] 5 2 (1 ∷ 0 ∷ 1 ∷ 0 ∷ 0 ∷ 0 ∷ []) ∷ [])
    ∷ (writes_as L [] 5 3 (1 ∷ 1 ∷ 0 ∷ 0 ∷ []) ∷ [])
    ∷ (writes_as L [] 5 4 (1 ∷ 1 ∷ 1 ∷ 0 ∷ 0 ∷ 0 ∷ []) ∷ [])
    ∷ (writes_as L [] 5 43 (1 ∷ 6 ∷ 0 ∷ 0 ∷ []) ∷ [])
    ∷ (writes_as nats_pair [] 1 8 (2 ∷ 2 ∷ []) ∷ [])
    ∷ (writes_as nats_pair [] 1 9 (0 ∷ 3 ∷ []) ∷ [])
    ∷ (writes_as nats_pair [] 1 42 (6 ∷ 0 ∷ []) ∷ [])
    ∷ (writes_as two_three [] 2 1 (1 ∷ 0 ∷ []) ∷ [])
    ∷ (writes_as two_two [] 1 1 (0 ∷ 1 ∷ []) ∷ [])
    ∷ (writes_as two_or_nats [] 2 4 (1 ∷ 2 ∷ []) ∷ [])
    ∷ (writes_as all_but_13 [] 1 13 (14 ∷ []) ∷ reads_as all_but_13 [] 1 (13 ∷ []) 15 0 ∷ [])
    ∷ []

pub worked : map (map asked) marked ≡ map (map expected) marked
unfolding asked expected walking fitted opening writes written write_says front_of whole_of reads read_of read_says
worked = refl

-- of the rest, which are run and compared (`vectors_rows`), those that compute at once
abbrev pub others : List Worked
others =
    reads_as L [] 5 (1 ∷ 6 ∷ 0 ∷ 0 ∷ []) 0 43
    ∷ reads_as L [] 5 (1 ∷ 0 ∷ 1 ∷ 0 ∷ 1 ∷ 0 ∷ 1 ∷ 0 ∷ 1 ∷ 0 ∷ 1 ∷ 0 ∷ 1 ∷ 0 ∷ 0 ∷ 0 ∷ []) 0 210066388901
    ∷ reads_as L [] 5 (1 ∷ 0 ∷ 1 ∷ 0 ∷ 1 ∷ 0 ∷ 1 ∷ 0 ∷ 1 ∷ 0 ∷ 1 ∷ 0 ∷ 1 ∷ 0 ∷ 1 ∷ 0 ∷ 0 ∷ 0 ∷ []) 16 0
    ∷ reads_as nats_pair [] 1 (0 ∷ 2147483648 ∷ []) 16 0
    ∷ reads_as nats_pair [] 1 (2147483647 ∷ 2147483647 ∷ []) 0 4611686018427387903
    ∷ writes_as chosen_of (1 ∷ 0 ∷ []) 2 3 (1 ∷ 0 ∷ [])
    ∷ []

pub others_worked : map asked others ≡ map expected others
unfolding asked expected walking fitted opening writes written write_says front_of whole_of reads read_of read_says
others_worked = refl
