-- A table's words. 01: "A table is a slice of 64-bit words, three to a node: kind, a, b."
--   kind_of, a_of, b_of   a node's three words
--   nodes              how many nodes a table has
--   lengths            the lengths of table and pool are as they must be
-- Assumes nothing.
use Rattle.std.specs.Prelude.{Bool, ◌&&◌, List, ℕ, ◌+◌, ◌*◌, ◌/◌, eqb, leb, length, get_or}

abbrev pub kind_of : List ℕ → ℕ → ℕ
kind_of t n = get_or t (3 * n) 0

abbrev pub a_of : List ℕ → ℕ → ℕ
a_of t n = get_or t (3 * n + 1) 0

abbrev pub b_of : List ℕ → ℕ → ℕ
b_of t n = get_or t (3 * n + 2) 0

abbrev pub nodes : List ℕ → ℕ
nodes t = length t / 3

-- "It has 1 to 256 nodes, numbered from 0. Beside it stands a pool of 0 to 4,096 words."
abbrev pub lengths : List ℕ → List ℕ → Bool
lengths t p = ((eqb (length t) (3 * nodes t) && leb 1 (nodes t)) && leb (nodes t) 256) && leb (length p) 4096
