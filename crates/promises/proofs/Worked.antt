-- Worked verdicts: one list of tables, with their pools and what 01 says of each, and one theorem over all of it, computed from the definitions.
--   tables, checked   the list and the theorem
-- Assumes nothing.
use mathlib.Core.Path.{◌≡◌, refl}
use mathlib.Core.List.{List, [], ◌∷◌, map}
use Prim.Native.Nat.{ℕ, ◌+◌, ◌^◌}
use Rattle.grammar.specs.Verdict.{Answer, answer, check_says}
use Rattle.grammar.proofs.Opened.{checking}

-- a table, its pool, and 01's number and node
pub data Checks : Type 0 where
  checks_as : List ℕ → List ℕ → ℕ → ℕ → Checks

unfoldable pub asked : Checks → Answer
asked (checks_as t p r k) = check_says t p

unfoldable pub expected : Checks → Answer
expected (checks_as t p r k) = record { refusal = r; node = k }

-- lists of numbers
abbrev pub L : List ℕ
L = 0 ∷ 1 ∷ 0 ∷ 1 ∷ 0 ∷ 0 ∷ 9 ∷ 5 ∷ 0 ∷ 5 ∷ 1 ∷ 2 ∷ 4 ∷ 0 ∷ 3 ∷ 8 ∷ 4 ∷ 0 ∷ []

-- sixty-five ones
abbrev pub D : List ℕ
D = 0 ∷ 1 ∷ 0 ∷ 9 ∷ 3 ∷ 0 ∷ 4 ∷ 0 ∷ 1 ∷ 8 ∷ 2 ∷ 0 ∷ []

abbrev pub tables : List Checks
tables =
    checks_as L [] 0 0
    ∷ checks_as D [] 0 0
    -- "Table 9 1 0, 8 0 0: 9 at node 0"
    ∷ checks_as (9 ∷ 1 ∷ 0 ∷ 8 ∷ 0 ∷ 0 ∷ []) [] 9 0
    -- no node; a word too many
    ∷ checks_as [] [] 1 0
    ∷ checks_as (0 ∷ 1 ∷ 0 ∷ 0 ∷ []) [] 1 0
    -- kind and row are tested together
    ∷ checks_as (0 ∷ 0 ∷ 0 ∷ 99 ∷ 0 ∷ 0 ∷ []) [] 5 0
    ∷ checks_as (10 ∷ 0 ∷ 0 ∷ []) [] 2 0
    ∷ checks_as (0 ∷ 1 ∷ 1 ∷ []) [] 3 0
    ∷ checks_as (1 ∷ 0 ∷ 0 ∷ 9 ∷ 2 ∷ 0 ∷ 8 ∷ 0 ∷ 9 ∷ []) [] 3 2
    ∷ checks_as (1 ∷ 0 ∷ 0 ∷ 5 ∷ 0 ∷ 1 ∷ []) [] 4 1
    ∷ checks_as (9 ∷ 0 ∷ 0 ∷ []) [] 4 0
    -- "1 <= a <= 2^62"
    ∷ checks_as (0 ∷ (2 ^ 62) ∷ 0 ∷ []) [] 0 0
    ∷ checks_as (0 ∷ (2 ^ 62 + 1) ∷ 0 ∷ []) [] 5 0
    -- "a+b within the pool"; "words all different"
    ∷ checks_as (2 ∷ 0 ∷ 1 ∷ []) (7 ∷ []) 0 0
    ∷ checks_as (2 ∷ 1 ∷ 1 ∷ []) (7 ∷ []) 5 0
    ∷ checks_as (2 ∷ 0 ∷ 3 ∷ []) (7 ∷ 8 ∷ 7 ∷ []) 6 0
    -- a shift of a pool; an except over size 1; a fix of a finite body
    ∷ checks_as (2 ∷ 0 ∷ 1 ∷ 3 ∷ 0 ∷ 1 ∷ []) (7 ∷ []) 7 1
    ∷ checks_as (0 ∷ 1 ∷ 0 ∷ 7 ∷ 0 ∷ 5 ∷ []) [] 7 1
    ∷ checks_as (0 ∷ 2 ∷ 0 ∷ 8 ∷ 0 ∷ 0 ∷ []) [] 7 1
    -- sums and products about 2^62
    ∷ checks_as (0 ∷ (2 ^ 61) ∷ 0 ∷ 4 ∷ 0 ∷ 0 ∷ []) [] 0 0
    ∷ checks_as (0 ∷ (2 ^ 61) ∷ 0 ∷ 0 ∷ (2 ^ 61 + 1) ∷ 0 ∷ 4 ∷ 0 ∷ 1 ∷ []) [] 8 2
    ∷ checks_as (0 ∷ (2 ^ 31) ∷ 0 ∷ 5 ∷ 0 ∷ 0 ∷ []) [] 0 0
    ∷ checks_as (0 ∷ (2 ^ 31) ∷ 0 ∷ 0 ∷ (2 ^ 31 + 1) ∷ 0 ∷ 5 ∷ 0 ∷ 1 ∷ []) [] 8 2
    ∷ checks_as (0 ∷ (2 ^ 62) ∷ 0 ∷ 1 ∷ 0 ∷ 0 ∷ 5 ∷ 0 ∷ 1 ∷ 4 ∷ 0 ∷ 1 ∷ []) [] 0 0
    -- dep: "the sum alone is right", so below 2 with seconds of 2^61 and 2^61 is allowed
    ∷ checks_as (0 ∷ 2 ∷ 0 ∷ 0 ∷ (2 ^ 61) ∷ 0 ∷ 6 ∷ 0 ∷ 0 ∷ []) (1 ∷ 1 ∷ []) 0 0
    ∷ checks_as (0 ∷ 2 ∷ 0 ∷ 1 ∷ 0 ∷ 0 ∷ 6 ∷ 0 ∷ 0 ∷ []) (0 ∷ 1 ∷ []) 7 2
    ∷ checks_as (0 ∷ 2 ∷ 0 ∷ 6 ∷ 0 ∷ 0 ∷ []) (0 ∷ 1 ∷ []) 4 1
    ∷ checks_as (0 ∷ 257 ∷ 0 ∷ 6 ∷ 0 ∷ 0 ∷ []) [] 7 1
    ∷ checks_as (0 ∷ 2 ∷ 0 ∷ 6 ∷ 0 ∷ 0 ∷ []) (0 ∷ []) 5 1
    -- any 9 comes before any 10; an or that names one node twice; the lowest node on the cycle
    ∷ checks_as (0 ∷ 1 ∷ 0 ∷ 9 ∷ 5 ∷ 0 ∷ 7 ∷ 1 ∷ 0 ∷ 4 ∷ 0 ∷ 2 ∷ 9 ∷ 7 ∷ 0 ∷ 8 ∷ 3 ∷ 0 ∷ 5 ∷ 4 ∷ 4 ∷ 8 ∷ 6 ∷ 0 ∷ []) [] 9 4
    ∷ checks_as (9 ∷ 2 ∷ 0 ∷ 4 ∷ 0 ∷ 0 ∷ 8 ∷ 1 ∷ 0 ∷ []) [] 9 0
    ∷ checks_as (9 ∷ 2 ∷ 0 ∷ 9 ∷ 2 ∷ 0 ∷ 8 ∷ 1 ∷ 0 ∷ []) [] 9 1
    -- an except on a cycle, and one that only leads to it
    ∷ checks_as (0 ∷ 1 ∷ 0 ∷ 9 ∷ 4 ∷ 0 ∷ 7 ∷ 1 ∷ 0 ∷ 4 ∷ 0 ∷ 2 ∷ 8 ∷ 3 ∷ 0 ∷ []) [] 10 2
    ∷ checks_as (0 ∷ 1 ∷ 0 ∷ 9 ∷ 3 ∷ 0 ∷ 4 ∷ 0 ∷ 1 ∷ 8 ∷ 2 ∷ 0 ∷ 7 ∷ 3 ∷ 0 ∷ []) [] 0 0
    ∷ []

pub checked : map asked tables ≡ map expected tables
unfolding asked expected checking answer check_says
checked = refl
