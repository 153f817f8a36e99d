-- `calling::readable` asks for the length and then for the last byte.
-- Assumes nothing.
use mathlib.Core.Path.{◌≡◌}
use Prim.Native.Nat.{◌-◌}
use native.Mathlib.Omega.{arith}
use lib.ListN.{length, get_or}
use Rattle.calling.proofs.Lines.{readable_long, readable_none, readable_last}
use Rattle.calling.proofs.readable.Goals as goal

pub returns-then-text-ge-INPUT_ROOM : goal.returns-then-text-ge-INPUT_ROOM
returns-then-text-ge-INPUT_ROOM c =
    readable_long _ c.if-text-ge-INPUT_ROOM.true

pub returns-in-Some : goal.returns-in-Some
returns-in-Some c =
    let there = c.in-Some.ensures.item.3 in
    let byte : c.in-Some.byte.now ≡ get_or c.args.text.now (length c.args.text.now - 1) 0 = there.1 0 in
    rw byte (readable_last _ (omega arith) (λ e. omega (arith, there.0)))

pub returns-in-None : goal.returns-in-None
returns-in-None c =
    readable_none _ (omega (arith, c.in-None.ensures.item))
