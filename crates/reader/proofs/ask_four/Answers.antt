-- `reader::ask_four` is what one reader answers, asked four times.
-- Assumes nothing.
use Rattle.reader.proofs.Asks.{four}
use Rattle.reader.proofs.ask_four.Goals as goal

pub returns : goal.returns
returns c =
    four c.args.table.now c.args.pool.now c.args.start c.args.row c.new-reader.ensures c.next-first.ensures c.next-second.ensures
    c.next-third.ensures c.next-fourth.ensures
