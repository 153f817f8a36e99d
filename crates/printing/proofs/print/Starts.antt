-- What the verdict on a table and a start node prints.
--   judge_cases, judge_refused        the numbers' lines, or one line
-- Assumes nothing.
use mathlib.Core.Path.{◌≡◌}
use mathlib.Core.List.{List}
use Prim.Native.Nat.{ℕ}
use Rattle.std.specs.Prelude.{Ok, Err}
use Rattle.grammar.specs.Refusals.{Verdict}
use Rattle.grammar.specs.declared.refusal.Refused.{Refused}
use Rattle.checked.specs.Opening.{opening}
use Rattle.texts.specs.declared.page.Page.{Page}
use Rattle.texts.specs.Page.{Puts}
use Rattle.texts.specs.Said.{refused_line}
use Rattle.printing.specs.Printed.{Answers, Judges}

module _ {text : List ℕ} {at : ℕ} {t p : List ℕ} {i : ℕ} {v : Verdict} (e : v ≡ opening t p i) {old last : Page} where
  pub judge_cases : {u : Unit {0}} → v ≡ Ok u → Answers text at t p i old last → Judges text at t p i old last
  judge_cases q a = record { print = λ ns here. rw (← e, q) (a.lines ns here) }

  pub judge_refused : {x : Refused} → v ≡ Err x → Puts (refused_line x.refusal x.node) old last → Judges text at t p i old last
  judge_refused q g = record { print = λ ns here. rw (← e, q) g }
