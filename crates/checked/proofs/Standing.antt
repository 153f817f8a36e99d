-- What the code that reads a case has found, in the words of its promises.
--   within                    the place after the cells that the walk read
--   walked_not, walked_case   by the word that the walk handed back
--   numbered_small, numbered_large   "then 16"
--   front_not, front_case     the case at a place, by what the walk read
--   whole_not, whole_over, whole_case   the same of all cells
--   stood                     what stands at a place, by the answer's constructor
-- Assumes nothing.
use mathlib.Core.Path.{◌≡◌, refl, sym, subst, ap, ◌∙◌}
use mathlib.Core.Logic.{⊎_elim}
use mathlib.Core.List.{List, []}
use Prim.Native.Nat.{ℕ, ◌+◌, ◌-◌, ◌^◌, ◌≤◌, ◌<◌}
use native.Mathlib.Omega.{arith}
use lib.Dec.{leb}
use lib.ListN.{length, take, drop, length-append, length-take, length-drop, length-map, drop_of_length-le}
use lib.Seq.{drop-cons, drop-drop, take_all, take-length}
use borrow.Author.Tests.{lt-ltb, le-ltb}
use Rattle.lists.proofs.Order.{le_or_lt}
use Rattle.grammar.specs.declared.entry.Entry.{Entry}
use Rattle.grammar.specs.declared.refusal.Refusal.{Refusal}
use Rattle.grammar.specs.declared.refusal.Refusal.TheVariants.{NotACase, NumberTooLarge}
use Rattle.grammar.specs.Rule.{Rule}
use Rattle.grammar.specs.Plan.{size_in, rule_in}
use Rattle.walk.specs.Walk.{cell, walk, depth}
use Rattle.walk.specs.Room.{most}
use Rattle.walk.specs.Run.{Read, read, run}
use Rattle.taking.specs.Took.{why_of, Took, exact, large, stops, Taken}
use Rattle.walk.specs.Plan.{Reading}
use Rattle.walk.proofs.Only.{only}
use Rattle.walk.proofs.Ends.{walk_some}
use Rattle.checked.specs.Fits.{room_for}
use Rattle.checked.specs.Item.{Front, front_of, front, whole_of, whole, numbered, WalkedBy, Walked, StoodBy, Stood}
use Rattle.checked.specs.declared.item.Item.{Item}
use Rattle.std.specs.Prelude.{Option, Some, None, Result, Ok, Err, unwrap_or}
use Rattle.taking.specs.Number.{Says}

take_few : (l : List ℕ) {k : ℕ} → k ≡ room_for (length l) → take k l ≡ take most l
take_few l {k} e =
    ⊎_elim (λ u. let f : k ≡ length l = omega arith in rw f (take-length l ∙ sym (take_all most l u))) (λ u. let f : k ≡ most = omega arith in rw f)
    (le_or_lt (length l) most)

-- ---- the cells that are lent to the walk: as many as a case may have
module _ (cells : List ℕ) (at : ℕ) {room : ℕ} (f : room ≡ room_for (length cells - at)) where
  abbrev row : List ℕ
  row = take (at + room - at) (drop at cells)

  row_few : length row ≤ most
  row_few = simp (length-take, length-drop) (omega (arith, f))

  row_most : row ≡ take most (drop at cells)
  row_most = take_few (drop at cells) {k = at + room - at} (omega (arith, f, length-drop at cells))

  module _ {plan : List Entry} {p : List ℕ} {i : ℕ} (h : Reading plan p i) (here : at ≤ length cells) {used word : ℕ}
      (t : Taken (2 ^ 62 + 1) (run (rule_in plan p) depth 0 i) row 0 used word) where
    abbrev walked : Read
    walked = run (rule_in plan p) depth 0 i most (drop at cells)

    took : Took (2 ^ 62 + 1) walked (drop at cells) most used word
    took = t.took (drop at cells) most row_most

    pub walked_not : 2 ^ 63 < word → {r : Refusal} → r ≡ why_of (leb most (length cells - at)) word → Walked (rule_in plan p) i cells at (Err r)
    walked_not l {r} g = record { is = by took }
      where
        by : Took (2 ^ 62 + 1) walked (drop at cells) most used word → WalkedBy walked cells at (Err r)
        by (exact s e) = absurd (omega (arith, s))
        by (large s m k e) = absurd (omega arith)
        by (stops s e) = rw (e, length-drop at cells, g)

    -- ---- a case that was read
    module _ (u : word ≤ 2 ^ 63) where
      pub within : at + used ≤ length cells
      within = omega (arith, t.inside u, row_few, length-take (at + room - at) (drop at cells), length-drop at cells)

      -- its number is the word, or neither is below 2^62
      met : (n : ℕ) × (walked ≡ read n (most - used) (drop (at + used) cells)) × (word < 2 ^ 62 → n ≡ word) × (2 ^ 62 ≤ word → 2 ^ 62 ≤ n)
      met = by took
        where
          by : Took (2 ^ 62 + 1) walked (drop at cells) most used word
              → (n : ℕ) × (walked ≡ read n (most - used) (drop (at + used) cells)) × (word < 2 ^ 62 → n ≡ word) × (2 ^ 62 ≤ word → 2 ^ 62 ≤ n)
          by (exact s e) = (word, e ∙ rw (drop-drop used at cells), λ l. refl, λ l. l)
          by (large s m k e) = (m, e ∙ rw (drop-drop used at cells), λ l. absurd (omega arith), λ l. omega arith)
          by (stops s e) = absurd (omega arith)

      -- a case has at least one cell, so the place moves on
      on : at < at + used
      on =
          let w = h.walks in
          let (n, e, _, _) = met in
          let (b, s) = only (size_in plan) w.count (rule_in plan p) w.good depth 0 i h.node most (drop at cells) e in
          let some = walk_some (size_in plan) w.count (rule_in plan p) w.good depth i n h.node b 0 in
          let long : length (walk (rule_in plan p) depth 0 i n) ≡ length s.ws = ap length s.shows ∙ length-map s.ws cell in
          let rest = drop (at + used) cells in
          omega (arith, some, long, ap length s.stands, length-append s.ws rest, length-drop (at + used) cells, length-drop at cells, within)

      -- a number past the limit is given as 2^62, which is too large as well
      pub walked_case : (o : Option ℕ) → Says (Ok o) word → Walked (rule_in plan p) i cells at (Ok (record { number = unwrap_or o (2 ^ 62); next = at + used }))
      walked_case (Some m) s =
          let (n, e, x, y) = met in
          record { is = (n, most - used, e, (λ l. x (omega (arith, s.0)) ∙ s.0), (λ l. y (omega (arith, s.0))), on, within) }
      walked_case None s = let (n, e, x, y) = met in record { is = (n, most - used, e, (λ l. absurd (omega arith)), (λ l. y (omega (arith, s))), on, within) }

-- ---- what stands at a place, by what the walk read
-- "then 16"
pub numbered_small : (d : Item) → d.number < 2 ^ 62 → numbered d ≡ Ok d
numbered_small d l = rw (lt-ltb d.number (2 ^ 62) l)

pub numbered_large : (d : Item) → 2 ^ 62 ≤ d.number → numbered d ≡ Err NumberTooLarge
numbered_large d l = rw (le-ltb d.number (2 ^ 62) l)

module _ {g : ℕ → Rule} {i : ℕ} {cells : List ℕ} {at : ℕ} {w : Result Item Refusal} (k : Walked g i cells at w) where
  abbrev run_here : Read
  run_here = run g depth 0 i most (drop at cells)

  told : {v : Result Item Refusal} → w ≡ v → WalkedBy run_here cells at v
  told e = subst (WalkedBy run_here cells at) e k.is

  -- ---- whatever stands behind it
  pub front_not : {x : Refusal} → w ≡ Err x → Stood (front g i (drop at cells)) cells at (Err x)
  unfolding front_of
  front_not e = record { is = rw (told e) }

  front_is : {d : Item} → w ≡ Ok d → {f : Front} → f ≡ front_of run_here → {r : Result Item Refusal} → r ≡ numbered d → Stood f cells at r
  unfolding front_of
  front_is {d} e {f} q {r} s =
      let (n, m, c, x, y, lo, hi) = told e in
      ⊎_elim (λ l. rw (s ∙ numbered_large d l) (record { is = q ∙ rw (c, le-ltb n (2 ^ 62) (y l)) }))
      (λ l. rw (s ∙ numbered_small d l) (record { is = (q ∙ rw (c, x l, lt-ltb d.number (2 ^ 62) l), lo, hi) })) (le_or_lt (2 ^ 62) d.number)

  pub front_case : {d : Item} → w ≡ Ok d → {r : Result Item Refusal} → r ≡ numbered d → Stood (front g i (drop at cells)) cells at r
  front_case e = front_is e refl

  -- ---- all cells
  pub whole_not : {x : Refusal} → w ≡ Err x → Stood (whole g i (drop at cells)) cells at (Err x)
  unfolding whole_of
  whole_not e = record { is = rw (told e) }

  pub whole_over : {d : Item} → w ≡ Ok d → d.next < length cells → Stood (whole g i (drop at cells)) cells at (Err NotACase)
  unfolding whole_of
  whole_over {d} e m = let (n, q, c, _, _, _, _) = told e in record { is = rw (c, drop-cons cells d.next 0 m) }

  pub whole_case : {d : Item} → w ≡ Ok d → length cells ≤ d.next → {r : Result Item Refusal} → r ≡ numbered d → Stood (whole g i (drop at cells)) cells at r
  unfolding whole_of front_of
  whole_case {d} e m =
      let (n, q, c, _, _, _, _) = told e in
      let none : drop d.next cells ≡ [] = drop_of_length-le cells {i = d.next} m in
      front_is e (rw (c, none))

-- by the answer's constructor
pub stood : {f : Front} {cells : List ℕ} {at : ℕ} {r k : Result Item Refusal} → Stood f cells at r → r ≡ k → StoodBy f cells at k
stood {f} {cells} {at} w e = subst (StoodBy f cells at) e w.is
