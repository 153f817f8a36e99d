-- "word and pool lengths", as facts.
--   lengths_are   the lengths are as they must be
-- Assumes nothing.
use mathlib.Core.Path.{◌≡◌, sym}
use mathlib.Core.Bool.{true, ◌&&◌}
use mathlib.Core.List.{List}
use Prim.Native.Nat.{ℕ, ◌*◌, ◌≤◌}
use lib.Dec.{eqb, leb}
use lib.ListN.{length}
use borrow.Author.Tests.{eqb-true, leb-true}
use Rattle.numbers.proofs.Tests.{and_left, and_right}
use Rattle.grammar.specs.Table.{nodes, lengths}

pub lengths_are : (t p : List ℕ) → true ≡ lengths t p → (length t ≡ 3 * nodes t) × (1 ≤ nodes t) × (nodes t ≤ 256) × (length p ≤ 4096)
lengths_are t p e =
    let whole = eqb (length t) (3 * nodes t) in
    let some = leb 1 (nodes t) in
    let few = leb (nodes t) 256 in
    let slight = leb (length p) 4096 in
    let f = and_left ((whole && some) && few) slight (sym e) in
    let g = and_left (whole && some) few f in (
      eqb-true (length t) (3 * nodes t) (and_left whole some g),
      leb-true 1 (nodes t) (and_right whole some g),
      leb-true (nodes t) 256 (and_right (whole && some) few f),
      leb-true (length p) 4096 (and_right ((whole && some) && few) slight (sym e)),
    )
