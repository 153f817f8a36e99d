-- Answers of row calls. 01: "the first that is refused stops the call, which returns its refusal and its item number from 0 (item 0 for refusals 1 to 11) ..
-- Successful row calls return the items and cells used."
--   Outcome     what a row call answers: done, or refused at an item
--   at_first    a refusal before any item
--   leaves     a buffer's last words: "no lent word changes" by a refusal, and success changes no more than it must
--   row_answer  01's number, node, item and counts of an answer
-- Assumes nothing.
use Rattle.std.specs.Prelude.{List, ℕ, Result, Ok, Err}
use Rattle.grammar.specs.Refusals.{number_of}
use Rattle.grammar.specs.declared.refusal.Refusal.{Refusal}
use Rattle.lists.specs.Filled.{over}
use Rattle.grammar.specs.declared.refusal.Refused.{Refused}
use Rattle.rows.specs.declared.answer.Row.{Row}
use Rattle.rows.specs.declared.answer.RowRefused.{RowRefused}

abbrev pub Outcome : Type 0
Outcome = Result Row RowRefused

abbrev pub done : ℕ → ℕ → Outcome
done items cells = Ok (record { items = items; cells = cells })

abbrev pub refused_at : Refusal → ℕ → ℕ → Outcome
refused_at r k item = Err (record { refusal = r; node = k; item = item })

-- what is found at an item, and the item where it is refused
abbrev pub at_item : {A : Type 0} → Result A Refusal → ℕ → Result A RowRefused
at_item (Ok x) item = Ok x
at_item (Err r) item = Err (record { refusal = r; node = 0; item = item })

-- "item 0 for refusals 1 to 11"
abbrev pub at_first : Refused → Outcome
at_first e = refused_at e.refusal e.node 0

abbrev pub leaves : Outcome → List ℕ → List ℕ → List ℕ
leaves (Ok d) new old = over new old
leaves (Err e) new old = old

pub record RowAnswer : Type 0 where
  pub refusal : ℕ
  pub node : ℕ
  pub item : ℕ
  pub items : ℕ
  pub cells : ℕ

unfoldable pub row_answer : Outcome → RowAnswer
row_answer (Ok d) = record { refusal = 0; node = 0; item = 0; items = d.items; cells = d.cells }
row_answer (Err e) = record { refusal = number_of e.refusal; node = e.node; item = e.item; items = 0; cells = 0 }
