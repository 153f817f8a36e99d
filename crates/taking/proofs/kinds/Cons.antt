-- What a cons reads: its first part, which has been read as x, and then its second.
-- Assumes nothing.
use mathlib.Core.Path.{◌≡◌, refl, subst}
use mathlib.Core.Logic.{⊎_elim}
use mathlib.Core.List.{List}
use Prim.Native.Nat.{ℕ, ◌+◌, ◌-◌, ◌^◌, ◌≤◌, ◌<◌}
use native.Mathlib.Omega.{arith}
use Rattle.lists.proofs.Order.{le_or_lt}
use Rattle.numbers.specs.Cons
use Rattle.numbers.specs.Joined.{capped, word_of}
use Rattle.numbers.proofs.cons.SplitJoin as Conses
use Rattle.grammar.specs.declared.entry.Entry.{Entry}
use Rattle.grammar.specs.Rule.{done, reads}
use Rattle.grammar.specs.Plan.{size_in, rule_in}
use Rattle.grammar.specs.kinds.Cons.{cons as cons_kind}
use Rattle.grammar.specs.kinds.Cons.{cons_rule}
use Rattle.walk.specs.Run.{Read, run}
use Rattle.walk.specs.Plan.{Reading}
use Rattle.taking.specs.Took.{Taken, TakenBy}
use Rattle.taking.proofs.Takes.{part_stops, two_stays, two_big, two_number}

module _ (plan : List Entry) (p : List ℕ) (a b left off : ℕ) {row : List ℕ} {at e x : ℕ} (h : Taken (2 ^ 62 + (201 - left)) (run (rule_in plan p) left off a) row at e x) where
  abbrev go : ℕ → ℕ → ℕ → List ℕ → Read
  go = run (rule_in plan p) left

  abbrev joined : ℕ → ℕ → ℕ
  joined = Cons.join (size_in plan a) (size_in plan b)

  pub cons_stops : 2 ^ 63 < x → TakenBy cons_kind plan p a b left off row at e x
  unfolding cons_rule
  cons_stops big = part_stops go off (λ x. reads b 0 (λ y. done (joined x y))) h big

  module _ (r : Reading plan p a × Reading plan p b) (s : x ≤ 2 ^ 63) {next y : ℕ} (k : Taken (2 ^ 62 + (201 - left)) (go 0 b) row e next y) where
    least : (m n : ℕ) → (m ≤ joined m n) × (n ≤ joined m n)
    least m n = Conses.join_least (size_in plan a) (size_in plan b) m n (r.0.walks.some a r.0.node) (r.1.walks.some b r.1.node)

    pub cons_stays : 2 ^ 63 ≤ y → TakenBy cons_kind plan p a b left off row at next y
    unfolding cons_rule
    cons_stays big = two_stays go off (λ m. b) joined h s (λ m q. refl) (λ m q n. least m n) (omega arith) k big

    cons_big : y < 2 ^ 63 → 2 ^ 63 ≤ x → TakenBy cons_kind plan p a b left off row at next (2 ^ 63)
    unfolding cons_rule
    cons_big small big = two_big go off (λ m. b) joined h s (λ m q. refl) (λ m q n. least m n) (omega arith) k small big

    pub cons_number : y < 2 ^ 63 → x < 2 ^ 63 → {w : ℕ} → w ≡ word_of (capped (joined x y)) → TakenBy cons_kind plan p a b left off row at next w
    unfolding cons_rule
    cons_number small low f = two_number go off (λ m. b) joined h s (λ m q. refl) (λ m q n. least m n) (omega arith) k (omega arith) small low f

    -- the first part was past the limit
    pub cons_past : y ≤ 2 ^ 63 → 2 ^ 63 ≤ x → TakenBy cons_kind plan p a b left off row at next (2 ^ 63)
    cons_past l big =
        ⊎_elim (λ o. subst (TakenBy cons_kind plan p a b left off row at next) (same o l) (cons_stays o)) (λ o. cons_big o big) (le_or_lt (2 ^ 63) y)
      where
        same : {v : ℕ} → 2 ^ 63 ≤ v → v ≤ 2 ^ 63 → v ≡ 2 ^ 63
        same o l = omega arith
