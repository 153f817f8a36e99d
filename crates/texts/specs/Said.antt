-- What every program prints.
--   unreadable_text            01: "Anything else prints only `unreadable`."; calls.md: "a line that is none of these or passes a limit, prints `unreadable`"
--   refused_text, refused_line  01: "`refused N at K`: refusal, node"; without its LF, and with it
-- Assumes nothing.
use Rattle.std.specs.Prelude.{List, ◌++◌, ℕ}
use Rattle.grammar.specs.Refusals.{number_of}
use Rattle.grammar.specs.declared.refusal.Refusal.{Refusal}
use Rattle.texts.specs.Ascii.{bytes}
use Rattle.texts.specs.Decimal.{decimal}

unfoldable pub unreadable_text : List ℕ
unreadable_text = bytes "unreadable\n"

unfoldable pub refused_text : Refusal → ℕ → List ℕ
refused_text r k = bytes "refused " ++ decimal (number_of r) ++ bytes " at " ++ decimal k

unfoldable pub refused_line : Refusal → ℕ → List ℕ
refused_line r k = refused_text r k ++ bytes "\n"
