-- What `read` promises. 01: "Reading walks the same nodes from cells .. Of 13, 14 and 15 the first met is given. Then cells left over (15, whole-case
-- reading only), then 16."
--   Found     the number, or the refusal and its node
--   found     the answer for what the cells are
--   reads     the answer for a table, its pool, a start node and the cells of a whole case
--   read_of    01's number, node and the number found, of an answer; read_says those of a call's
-- Assumes nothing.
use Rattle.std.specs.Prelude.{List, ℕ, Result, Ok, Err}
use Rattle.grammar.specs.Refusals.{number_of, refused as refuses}
use Rattle.grammar.specs.declared.refusal.Refused.{Refused}
use Rattle.grammar.specs.Sizes.{rules_of}
use Rattle.checked.specs.Opening.{judged, opening}
use Rattle.checked.specs.Item.{Front, number, refused, whole}

abbrev pub Found : Type 0
Found = Result ℕ Refused

abbrev pub found : Front → Found
found (number n rest) = Ok n
found (refused r) = refuses r 0

unfoldable pub reads : List ℕ → List ℕ → ℕ → List ℕ → Found
reads t p i cs = judged Err (opening t p i) (found (whole (rules_of t p) i cs))

-- "A refusal returns its number, a node for 1 to 10 (0 for every other refusal)"
pub record ReadAnswer : Type 0 where
  pub refusal : ℕ
  pub node : ℕ
  pub number : ℕ

unfoldable pub read_of : Found → ReadAnswer
read_of (Ok n) = record { refusal = 0; node = 0; number = n }
read_of (Err e) = record { refusal = number_of e.refusal; node = e.node; number = 0 }

unfoldable pub read_says : List ℕ → List ℕ → ℕ → List ℕ → ReadAnswer
read_says t p i cs = read_of (reads t p i cs)
