-- The lines of a number. 01: "Every printed line ends in LF."
--   case_text          "`case I: ` and its cells with single spaces"
--   case_refused_text   "or `case I refused N`; I is the number asked for"
-- Assumes nothing.
use Rattle.std.specs.Prelude.{List, ◌++◌, ℕ}
use Rattle.grammar.specs.Refusals.{number_of}
use Rattle.grammar.specs.declared.refusal.Refusal.{Refusal}
use Rattle.texts.specs.Ascii.{bytes}
use Rattle.texts.specs.Decimal.{decimal}
use Rattle.texts.specs.Line.{line_text}

-- a line of numbers has single spaces and ends in LF
unfoldable pub case_text : ℕ → List ℕ → List ℕ
case_text n cs = bytes "case " ++ decimal n ++ bytes ": " ++ line_text cs

unfoldable pub case_refused_text : ℕ → Refusal → List ℕ
case_refused_text n r = bytes "case " ++ decimal n ++ bytes " refused " ++ decimal (number_of r) ++ bytes "\n"
