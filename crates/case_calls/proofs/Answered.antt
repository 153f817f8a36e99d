-- What `check` prints, by what stands behind its word and by its answer.
--   check_not, check_done
-- Assumes nothing.
use mathlib.Core.Path.{◌≡◌, sym, ap, ◌∙◌}
use mathlib.Core.Bool.{Bool, true, false, not}
use mathlib.Core.List.{List}
use Prim.Native.Nat.{ℕ}
use lib.Dec.{eqb}
use borrow.Author.Tests.{not-true, not-false}
use Rattle.std.specs.Cmp.Lexicographic.{pointwise}
use Rattle.grammar.specs.Verdict.{verdict}
use Rattle.grammar.specs.Refusals.{Verdict}
use Rattle.texts.specs.Ascii.{bytes}
use Rattle.texts.specs.Said.{unreadable_text}
use Rattle.asking.specs.Same.{same}
use Rattle.asking.proofs.Comparing.{pointwise_same}
use Rattle.case_calls.specs.Check.{check_text, check_call}

module _ (t p rest : List ℕ) {lf : List ℕ} (f : lf ≡ bytes "\n") {b : Bool} (e : b ≡ not (pointwise eqb rest lf)) where
  is : b ≡ not (same rest (bytes "\n"))
  is = e ∙ rw f (ap not (pointwise_same rest (bytes "\n")))

  pub check_not : b ≡ true → unreadable_text ≡ check_call t p rest
  unfolding check_call
  check_not g = rw (not-true (same rest (bytes "\n")) (sym is ∙ g))

  pub check_done : b ≡ false → {v w : Verdict} → v ≡ verdict t p → v ≡ w → check_text w ≡ check_call t p rest
  unfolding check_call
  check_done g d q = rw (not-false (same rest (bytes "\n")) (sym is ∙ g)) (ap check_text (sym q ∙ d))
