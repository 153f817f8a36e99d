-- `numbers::tuple::join` is the number of the parts, capped: past the largest root it is at least a power past the limit.
-- Assumes nothing.
use mathlib.Core.List.{List}
use Prim.Native.Nat.{ℕ, ◌+◌, ◌≤◌, ◌<◌}
use native.Mathlib.Omega.{arith}
use lib.ListN.{length}
use Rattle.numbers.specs.Joined.{limit}
use Rattle.numbers.specs.Power.{root_of}
use Rattle.numbers.specs.Tuple.{largest, join}
use Rattle.numbers.proofs.joined.Capped.{is_big}
use Rattle.numbers.proofs.power.Powers.{pow_le, root_is}
use Rattle.numbers.proofs.power.Largest.{fits}
use Rattle.numbers.proofs.tuple.join.Goals as goal

past : (parts : List ℕ) → 3 ≤ length parts → root_of (length parts) limit < largest parts → limit ≤ join parts
unfolding join
past parts l h =
    let t = length parts in
    omega (arith, pow_le t {a = root_of t limit + 1} {b = largest parts} (omega arith), (root_is t limit (omega arith)).most)

pub returns-then-most-r : goal.returns-then-most-r
returns-then-most-r c =
    is_big _ (past c.args.parts.now c.requires.0 (omega arith))

pub number-requires : goal.number-requires
number-requires c =
    (fits (length c.args.parts.now) c.requires.0 c.requires.1 c.largest-r.result (omega arith), c.largest-r.ensures)
