-- What a dep reads: its first part, which has been read as x, and then the second that x chooses.
--   dep_first   a number that is read is below the size, so it is no Big
-- Assumes nothing.
use mathlib.Core.Path.{◌≡◌, refl, sym, ap, subst, ◌∙◌}
use mathlib.Core.Bool.{Bool, true, false}
use mathlib.Core.Logic.{⊎_elim}
use mathlib.Core.List.{List}
use Prim.Native.Nat.{ℕ, ◌+◌, ◌-◌, ◌^◌, ◌≤◌, ◌<◌}
use native.Mathlib.Omega.{arith}
use lib.Dec.{ltb}
use lib.ListN.{get_or, take, drop}
use borrow.Author.Tests.{ltb-true, ltb-false}
use Rattle.numbers.specs.Dep
use Rattle.numbers.specs.Joined.{capped, word_of}
use Rattle.lists.proofs.Order.{le_or_lt}
use Rattle.grammar.specs.declared.entry.Entry.{Entry}
use Rattle.grammar.specs.Rule.{Tree, done, reads}
use Rattle.grammar.specs.Plan.{size_in, rule_in}
use Rattle.grammar.specs.Seconds.{firsts}
use Rattle.grammar.specs.kinds.Dep.{dep as dep_kind}
use Rattle.grammar.specs.kinds.Dep.{seconds_of, dep_rule}
use Rattle.walk.specs.Run.{Read, follow, run}
use Rattle.walk.specs.Plan.{Choosing}
use Rattle.walk.proofs.Only.{only}
use Rattle.walk.proofs.Nodes.{tree_of}
use Rattle.walk.proofs.Choosing.{dep_by, first_of, second_of, dep_least}
use Rattle.taking.specs.Took.{Taken, TakenBy}
use Rattle.taking.proofs.Cells.{seen_row}
use Rattle.taking.proofs.Takes.{part_stops, two_stays, two_number}

module _ {plan : List Entry} {p : List ℕ} {a b : ℕ} (d : Choosing plan p a b) (left off : ℕ) {row : List ℕ} {at e x : ℕ}
    (h : Taken (2 ^ 62 + (201 - left)) (run (rule_in plan p) left off a) row at e x) where
  abbrev go : ℕ → ℕ → ℕ → List ℕ → Read
  go = run (rule_in plan p) left

  abbrev seconds : List ℕ
  seconds = take (firsts plan a) (drop b p)

  abbrev joined : ℕ → ℕ → ℕ
  joined = Dep.join (seconds_of (size_in plan) seconds)

  abbrev tree : Tree
  tree = reads a 0 (λ x. reads (get_or seconds x 0) 0 (λ y. done (joined x y)))

  by_tree : {next r : ℕ} → Taken (2 ^ 62 + (200 - left)) (follow go off tree) row at next r → TakenBy dep_kind plan p a b left off row at next r
  unfolding dep_rule
  by_tree {next} {r} t = subst (λ (u : Tree). Taken (2 ^ 62 + (200 - left)) (follow go off u) row at next r) (sym (tree_of (dep_by d))) t

  pub dep_first : x ≤ 2 ^ 63 → (x < 2 ^ 63) × (x < firsts plan a)
  dep_first s =
      let o = seen_row h s in
      let r = d.first in
      let i = (only (size_in plan) r.walks.count (rule_in plan p) r.walks.good left off a r.node _ _ o.is).0 in
      by o.m o.same o.above (first_of d o.m i) d.few (ltb x (2 ^ 63)) refl
    where
      by : (m : ℕ) → (x < 2 ^ 63 → m ≡ x) → (2 ^ 63 ≤ x → 2 ^ 62 + (201 - left) ≤ m) → m < firsts plan a → firsts plan a ≤ 256 → (q : Bool)
          → ltb x (2 ^ 63) ≡ q
          → (x < 2 ^ 63) × (x < firsts plan a)
      by m same above u v true b = let z = ltb-true x (2 ^ 63) b in let w = same z in (z, omega arith)
      by m same above u v false b = let z = above (ltb-false x (2 ^ 63) b) in absurd (omega arith)

  pub dep_stops : 2 ^ 63 ≤ x → TakenBy dep_kind plan p a b left off row at e x
  dep_stops big =
      ⊎_elim (λ s. absurd (omega (arith, (dep_first s).0)))
      (λ s. by_tree (part_stops go off (λ x. reads (get_or seconds x 0) 0 (λ y. done (joined x y))) h s)) (le_or_lt x (2 ^ 63))

  module _ (low : (x < 2 ^ 63) × (x < firsts plan a)) {next y : ℕ} (k : Taken (2 ^ 62 + (201 - left)) (go 0 (get_or p (b + x) 0)) row e next y) where
    node : (m : ℕ) → (x < 2 ^ 63 → m ≡ x) → get_or seconds m 0 ≡ get_or p (b + x) 0
    node m same = ap (λ (n : ℕ). get_or seconds n 0) (same low.0) ∙ second_of d x low.1

    least : (m : ℕ) → (x < 2 ^ 63 → m ≡ x) → (n : ℕ) → (m ≤ joined m n) × (n ≤ joined m n)
    least m same n = dep_least d m (rw (same low.0) low.1) n

    pub dep_stays : 2 ^ 63 ≤ y → TakenBy dep_kind plan p a b left off row at next y
    dep_stays big = by_tree (two_stays go off (λ m. get_or seconds m 0) joined h (omega (arith, low.0)) node least (omega arith) k big)

    pub dep_number : y < 2 ^ 63 → {w : ℕ} → w ≡ word_of (capped (joined x y)) → TakenBy dep_kind plan p a b left off row at next w
    dep_number small f =
        by_tree (two_number go off (λ m. get_or seconds m 0) joined h (omega (arith, low.0)) node least (omega arith) k (omega arith) small low.0 f)
