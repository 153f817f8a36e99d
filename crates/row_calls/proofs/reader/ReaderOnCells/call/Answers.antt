use mathlib.Core.Path.{◌≡◌}
use Rattle.std.specs.Prelude.{Some, Ok}
use borrow.Author.Rules.{rules}
use Rattle.row_calls.proofs.Asking.{ask_none, nearer, ask_more, ask_end, ask_refused}
use Rattle.rows.proofs.Values.{strode_is}
use Rattle.row_calls.proofs.reader.ReaderOnCells.call.Goals as goal

pub loop-next-init : goal.loop-next-init
loop-next-init c =
    ask_none

pub loop-next-smaller : goal.loop-next-smaller
loop-next-smaller c =
    let handed : c.read_at-stride.result.answer ≡ Ok (Some c.in-Ok-Some.next) = search rules in
    nearer c.loop-next.invariant (strode_is _ _ _ _ _ c.read_at-stride.ensures) handed

pub loop-next-preserved : goal.loop-next-preserved
loop-next-preserved c =
    let handed : c.read_at-stride.result.answer ≡ Ok (Some c.in-Ok-Some.next) = search rules in
    ask_more c.loop-next.invariant (strode_is _ _ _ _ _ c.read_at-stride.ensures) handed c.item_line.ensures

pub returns-in-Ok-None : goal.returns-in-Ok-None
returns-in-Ok-None c =
    ask_end c.loop-next.invariant (strode_is _ _ _ _ _ c.read_at-stride.ensures) (search rules) c.put_text.ensures

pub returns-in-Err : goal.returns-in-Err
returns-in-Err c =
    ask_refused c.loop-next.invariant (strode_is _ _ _ _ _ c.read_at-stride.ensures) c.in-Err.is c.refused_line.ensures
