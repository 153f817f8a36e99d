-- `texts::page::Page::put_line` puts the first number, and the others with a space before each.
-- Assumes nothing.
use native.Mathlib.Omega.{arith}
use Rattle.texts.proofs.page.Putting.{line_none, line_some}
use Rattle.texts.proofs.page.Page.put_line.Goals as goal
use Rattle.texts.proofs.page.Page.put_line.Goals.{in_default, in-len1-up}

pub returns : goal.returns
returns c =
    elim c.if-numbers-lt1.branch [
      | in_default w ↦ line_none _ (omega (arith, w.in_default.len_below)) (rw w.self-is at c.put_text.ensures)
      | in-len1-up w ↦
          line_some _ (λ e. omega (arith, w.in-len1-up.len_at_least)) w.put_number.ensures w.put_numbers.ensures (rw w.self-is at c.put_text.ensures)
    ]
