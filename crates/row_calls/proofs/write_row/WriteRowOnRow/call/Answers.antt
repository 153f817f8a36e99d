-- `row_calls::write_row::WriteRowOnRow::call` makes the call with as much of the buffer as its line says.
-- Assumes nothing.
use mathlib.Core.Path.{◌≡◌, ap}
use mathlib.Core.List.{◌++◌}
use lib.ListN.{length, take, drop}
use lib.Seq.{length-take-le}
use Rattle.row_calls.specs.WriteRow.{write_row_text}
use Rattle.row_calls.proofs.write_row.WriteRowOnRow.call.Goals as goal

pub returns : goal.returns
unfolding write_row_text
returns c =
    let size : length (take c.args.room c.args.buffer.now) ≡ c.args.room = length-take-le c.args.room c.args.buffer.now c.requires in
    record {
      puts = rw size at c.write_cells.ensures.puts;
      lent = ap (◌++ drop c.args.room c.args.buffer.now) (rw size at c.write_cells.ensures.buffer);
    }
