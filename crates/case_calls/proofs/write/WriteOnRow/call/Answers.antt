-- `case_calls::write::WriteOnRow::call` makes the call of one number, with as much of the buffer as its line says.
-- Assumes nothing.
use mathlib.Core.Path.{◌≡◌}
use lib.ListN.{length, take}
use lib.Seq.{length-take-le}
use Rattle.texts.proofs.page.Putting.{told}
use Rattle.case_calls.proofs.Writing.{one_not, one_text, one_kept, one_leaves}
use Rattle.case_calls.proofs.write.WriteOnRow.call.Goals as goal

pub returns-then-words-ne1 : goal.returns-then-words-ne1
returns-then-words-ne1 c =
    record { puts = told (one_not _ _ _ _ c.if-words-ne1.true) c.unreadable.ensures; lent = one_kept _ _ _ _ _ _ c.if-words-ne1.true }

pub returns : goal.returns
returns c =
    let size : length (take c.args.room c.args.buffer.now) ≡ c.args.room = length-take-le c.args.room c.args.buffer.now c.requires in
    record {
      puts = told (one_text _ _ _ _ c.if-words-ne1.false) (rw size at c.write_case.ensures.puts);
      lent = one_leaves _ _ _ _ _ _ c.if-words-ne1.false (rw size at c.write_case.ensures.buffer);
    }
