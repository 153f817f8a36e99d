-- What `check` prints, as calls.md has it.
--   check_text    of a verdict
--   check_call    of the rest of its line: it has no fields
-- Assumes nothing.
use Rattle.std.specs.Prelude.{cond, List, ℕ, Ok, Err}
use Rattle.grammar.specs.Verdict.{verdict}
use Rattle.grammar.specs.Refusals.{Verdict}
use Rattle.texts.specs.Ascii.{bytes}
use Rattle.texts.specs.Said.{unreadable_text, refused_line}
use Rattle.asking.specs.Same.{same}

unfoldable pub check_text : Verdict → List ℕ
check_text (Ok u) = bytes "accepted\n"
check_text (Err e) = refused_line e.refusal e.node

unfoldable pub check_call : List ℕ → List ℕ → List ℕ → List ℕ
check_call t p rest = cond (same rest (bytes "\n")) (check_text (verdict t p)) unreadable_text
