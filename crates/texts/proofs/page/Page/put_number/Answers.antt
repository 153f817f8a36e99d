-- `texts::page::Page::put_number` puts a digit, or the text that the library has for a number.
-- Assumes nothing.
use mathlib.Core.Path.{◌∙◌}
use native.Mathlib.Omega.{arith}
use Rattle.texts.proofs.Decimals.{decimal_same, decimal_digit_is}
use Rattle.texts.proofs.page.Putting.{told}
use Rattle.texts.proofs.page.Page.put_number.Goals as goal

pub returns-then-n-lt-BASE : goal.returns-then-n-lt-BASE
returns-then-n-lt-BASE c =
    told (decimal_digit_is c.args.n c.if-n-lt-BASE.true) c.put_byte.ensures

pub returns : goal.returns
returns c =
    told (c.as_bytes.ensures.value ∙ c.format.ensures.text ∙ decimal_same c.args.n (omega arith)) c.put_text.ensures
