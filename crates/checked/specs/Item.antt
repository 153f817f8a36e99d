-- One case at the front of cells, on a checked table. 01: "the walk, then 16".
--   Front     the number and the cells after its case, or the refusal
--   front     what stands at the front
--   whole     what all the cells are, as one case
--   Walked    what the walk read from a place on, with the place after its cells
--   numbered  of a number that is read, 16 where it is not below 2^62
--   Stood     the code's answer, with a place for the cells from there on
-- Assumes nothing.
use Rattle.std.specs.Prelude.{◌≡◌, List, [], ◌∷◌, ℕ, ◌^◌, ◌≤◌, ◌<◌, ltb, length, drop, Result, Ok, Err}
use Rattle.numbers.specs.Pick.{pick}
use Rattle.grammar.specs.declared.refusal.Refusal.{Refusal}
use Rattle.grammar.specs.declared.refusal.Refusal.TheVariants.{NotACase, NumberTooLarge}
use Rattle.grammar.specs.Rule.{Rule}
use Rattle.walk.specs.Walk.{depth}
use Rattle.walk.specs.Room.{most}
use Rattle.walk.specs.Run.{Read, read, wrong, run}
use Rattle.checked.specs.declared.item.Item.{Item}

pub data Front : Type 0 where
  number : ℕ → List ℕ → Front
  refused : Refusal → Front

-- "then 16": a number not below 2^62
unfoldable pub front_of : Read → Front
front_of (read n q rest) = pick (ltb n (2 ^ 62)) (number n rest) (refused NumberTooLarge)
front_of (wrong r) = refused r

abbrev pub front : (ℕ → Rule) → ℕ → List ℕ → Front
front g i cs = front_of (run g depth 0 i most cs)

-- "Then cells left over (15, whole-case reading only), then 16."
unfoldable pub whole_of : Read → Front
whole_of (read n q []) = front_of (read n q [])
whole_of (read n q (c ∷ cs)) = refused NotACase
whole_of (wrong r) = refused r

abbrev pub whole : (ℕ → Rule) → ℕ → List ℕ → Front
whole g i cs = whole_of (run g depth 0 i most cs)

-- what the walk read, in the code's words: from 2^62 on a number is not exact
abbrev pub WalkedBy : Read → List ℕ → ℕ → Result Item Refusal → Type 0
WalkedBy w cells at (Ok i) = (n : ℕ) × (q : ℕ) × (w ≡ read n q (drop i.next cells)) × (i.number < 2 ^ 62 → n ≡ i.number) × (2 ^ 62 ≤ i.number → 2 ^ 62 ≤ n)
    × (at < i.next) × (i.next ≤ length cells)
WalkedBy w cells at (Err r) = w ≡ wrong r

pub record Walked (g : ℕ → Rule) (i : ℕ) (cells : List ℕ) (at : ℕ) (r : Result Item Refusal) : Type 0 where
  pub is : WalkedBy (run g depth 0 i most (drop at cells)) cells at r

-- "then 16"
abbrev pub numbered : Item → Result Item Refusal
numbered i = pick (ltb i.number (2 ^ 62)) (Ok i) (Err NumberTooLarge)

abbrev pub StoodBy : Front → List ℕ → ℕ → Result Item Refusal → Type 0
StoodBy f cells at (Ok i) = (f ≡ number i.number (drop i.next cells)) × (at < i.next) × (i.next ≤ length cells)
StoodBy f cells at (Err r) = f ≡ refused r

pub record Stood (f : Front) (cells : List ℕ) (at : ℕ) (r : Result Item Refusal) : Type 0 where
  pub is : StoodBy f cells at r
