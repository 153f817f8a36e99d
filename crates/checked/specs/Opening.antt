-- How every call begins. 01: "Each call checks the table first, then 11".
--   judged    a refusal, or what comes after it
--   opening   the verdict on a table and a start
-- Assumes nothing.
use Rattle.std.specs.Prelude.{List, ℕ, ltb, Ok, Err}
use Rattle.numbers.specs.Pick.{pick}
use Rattle.grammar.specs.Table.{nodes}
use Rattle.grammar.specs.Verdict.{verdict}
use Rattle.grammar.specs.Refusals.{Verdict, accepted, refused}
use Rattle.grammar.specs.declared.refusal.Refusal.TheVariants.{NoSuchStart}
use Rattle.grammar.specs.declared.refusal.Refused.{Refused}

-- a refusal and its node as a call's answer has them
abbrev pub judged : {A : Type 0} → (Refused → A) → Verdict → A → A
judged refuses (Ok u) x = x
judged refuses (Err e) x = refuses e

unfoldable pub opening : List ℕ → List ℕ → ℕ → Verdict
opening t p i = judged Err (verdict t p) (pick (ltb i (nodes t)) accepted (refused NoSuchStart 0))
