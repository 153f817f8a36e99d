-- What `write` promises. 01: "Each call checks the table first, then 11, then 12, then walks; of 13 and 14 the one first met in walk order is given."
--   Written    the count of cells, or the refusal and its node
--   writes     the answer for a table, its pool, a start node, a number and a room
--   written    01's number, node and count of an answer; write_says those of a call's
--   Wrote      the answer and the buffer's last words, for every input
-- Assumes nothing.
use Rattle.std.specs.Prelude.{◌≡◌, List, ℕ, length, Result, Ok, Err}
use Rattle.grammar.specs.Refusals.{number_of, refused}
use Rattle.grammar.specs.declared.refusal.Refused.{Refused}
use Rattle.grammar.specs.Sizes.{rules_of}
use Rattle.lists.specs.Filled.{over}
use Rattle.checked.specs.Opening.{judged, opening}
use Rattle.checked.specs.Fits.{Fit, case_cells, fitted}

abbrev pub Written : Type 0
Written = Result ℕ Refused

abbrev pub wrote : Fit → Written
wrote (Ok k) = Ok k
wrote (Err r) = refused r 0

unfoldable pub writes : List ℕ → List ℕ → ℕ → ℕ → ℕ → Written
writes t p i n room = judged Err (opening t p i) (wrote (fitted (rules_of t p) i n room))

-- "A refusal returns its number, a node for 1 to 10 (0 for every other refusal), and 0 for all counts"
pub record WriteAnswer : Type 0 where
  pub refusal : ℕ
  pub node : ℕ
  pub cells : ℕ

unfoldable pub written : Written → WriteAnswer
written (Ok k) = record { refusal = 0; node = 0; cells = k }
written (Err e) = record { refusal = number_of e.refusal; node = e.node; cells = 0 }

unfoldable pub write_says : List ℕ → List ℕ → ℕ → ℕ → ℕ → WriteAnswer
write_says t p i n room = written (writes t p i n room)

-- "no lent word changes"; "Success writes the case's cells only, the rest of the buffer keeps its bytes"
abbrev pub leaves : Written → List ℕ → List ℕ → List ℕ
leaves (Ok k) cs old = over cs old
leaves (Err e) cs old = old

pub record Wrote (t p : List ℕ) (i n : ℕ) (old last : List ℕ) (r : Written) : Type 0 where
  pub says : written r ≡ write_says t p i n (length old)
  pub holds : last ≡ leaves r (case_cells (rules_of t p) i n) old
