-- `row_calls::read_row::ReadRowOnRow::call` makes the call with as much of the buffer as its line says.
-- Assumes nothing.
use mathlib.Core.Path.{◌≡◌, ap}
use mathlib.Core.List.{◌++◌}
use lib.ListN.{length, take, drop}
use lib.Seq.{length-take-le}
use Rattle.row_calls.specs.ReadRow.{read_row_text}
use Rattle.row_calls.proofs.read_row.ReadRowOnRow.call.Goals as goal

pub returns : goal.returns
unfolding read_row_text
returns c =
    let size : length (take c.args.room c.args.buffer.now) ≡ c.args.room = length-take-le c.args.room c.args.buffer.now c.requires in
    record {
      puts = rw size at c.read_cells.ensures.puts;
      lent = ap (◌++ drop c.args.room c.args.buffer.now) (rw size at c.read_cells.ensures.buffer);
    }
