-- What calls print, as the table of calls.md has it.
--   number_line                       "`number N`"
--   item_text                         "`number N, C cells` for each item"
--   refused_item                      "`refused R at K item I`"
--   items_text, cells_text             "`M items, C cells: c c c`"
--   end_text                          the end of a line about a lent buffer
-- Assumes nothing.
use Rattle.std.specs.Prelude.{cond, List, ◌++◌, ℕ, drop}
use Rattle.grammar.specs.declared.refusal.Refusal.{Refusal}
use Rattle.texts.specs.Ascii.{bytes}
use Rattle.texts.specs.Decimal.{decimal}
use Rattle.texts.specs.Line.{spaced}
use Rattle.texts.specs.Said.{refused_text}
use Rattle.asking.specs.Buffer.{changed}

unfoldable pub number_line : ℕ → List ℕ
number_line n = bytes "number " ++ decimal n ++ bytes "\n"

unfoldable pub item_text : ℕ → ℕ → List ℕ
item_text n k = bytes "number " ++ decimal n ++ bytes ", " ++ decimal k ++ bytes " cells\n"

unfoldable pub refused_item : Refusal → ℕ → ℕ → List ℕ
refused_item r k item = refused_text r k ++ bytes " item " ++ decimal item

unfoldable pub items_text : ℕ → List ℕ
items_text items = decimal items ++ bytes " items, "

unfoldable pub cells_text : ℕ → List ℕ → List ℕ
cells_text count words = decimal count ++ bytes " cells:" ++ spaced words

-- calls.md: "if after the call a word holds anything but what the promise says (after a refusal: any word changed; after success: a word past the count),
-- the line ends in ` CHANGED`"
unfoldable pub end_text : List ℕ → ℕ → List ℕ
end_text buffer from = cond (changed from (drop from buffer)) (bytes " CHANGED\n") (bytes "\n")
