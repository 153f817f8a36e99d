-- What an except reads: its part, which has been read as x. 15: "the case an except removed (met after its last cell)".
-- Assumes nothing.
use mathlib.Core.Path.{◌≡◌, sym, subst, ◌∙◌}
use mathlib.Core.Logic.{◌⊎◌, inl, inr, ⊎_elim}
use mathlib.Core.List.{List}
use Prim.Native.Nat.{ℕ, ◌+◌, ◌-◌, ◌^◌, ◌≤◌, ◌<◌}
use native.Mathlib.Omega.{arith}
use lib.Dec.{eqb}
use borrow.Author.Tests.{eq-eqb, ne_eqb}
use Rattle.numbers.specs.Pick.{pick}
use Rattle.numbers.specs.Except
use Rattle.numbers.specs.Joined.{capped, word_of}
use Rattle.numbers.proofs.except.SplitJoin as Excepts
use Rattle.lists.proofs.Order.{le_or_lt}
use Rattle.grammar.specs.declared.entry.Entry.{Entry}
use Rattle.grammar.specs.Rule.{Tree, done, fails}
use Rattle.grammar.specs.Plan.{rule_in}
use Rattle.grammar.specs.kinds.Except.{except as except_kind}
use Rattle.grammar.specs.kinds.Except.{except_rule}
use Rattle.walk.specs.Run.{Read, follow, run}
use Rattle.taking.specs.Took.{Taken, TakenBy}
use Rattle.taking.proofs.Cells.{taken_large, taken_number, taken_fails}
use Rattle.taking.proofs.Takes.{part_stops, part_then}

module _ (plan : List Entry) (p : List ℕ) (a b left off : ℕ) {row : List ℕ} {at e x : ℕ} (h : Taken (2 ^ 62 + (201 - left)) (run (rule_in plan p) left off a) row at e x) where
  abbrev go : ℕ → ℕ → ℕ → List ℕ → Read
  go = run (rule_in plan p) left

  abbrev others : ℕ → Tree
  others m = pick (eqb m b) fails (done (Except.join b m))

  pub except_unfit : x < 2 ^ 63 → x ≡ b → TakenBy except_kind plan p a b left off row at e (2 ^ 63 + 2)
  unfolding except_rule follow
  except_unfit s q = part_then go off others h (omega arith) (λ m same above. rw (eq-eqb m b (same s ∙ q)) taken_fails)

  -- Big stays so: an except takes off at most one
  pub except_stays : left ≤ 200 → b < 2 ^ 62 → 2 ^ 63 ≤ x → TakenBy except_kind plan p a b left off row at e x
  unfolding except_rule follow
  except_stays lo s big = ⊎_elim (λ o. part_stops go off others h o) (λ o. subst (TakenBy except_kind plan p a b left off row at e) (sym o) (at_limit o))
      (past big)
    where
      past : {x : ℕ} → 2 ^ 63 ≤ x → (2 ^ 63 < x) ⊎ (x ≡ 2 ^ 63)
      past {x} l = ⊎_elim (λ o. inr (omega arith)) (λ o. inl o) (le_or_lt x (2 ^ 63))

      at_limit : x ≡ 2 ^ 63 → TakenBy except_kind plan p a b left off row at e (2 ^ 63)
      at_limit o =
          part_then go off others h (omega arith)
          (λ m same above.
          let z : 2 ^ 62 + (201 - left) ≤ m = above big in
          let ne : m ≡ b → ⊥ = λ q. omega arith in
          rw (ne_eqb m b ne) (taken_large (omega (arith, (Excepts.join_least b m).0)) (h.inside (omega arith))))

  pub except_number : x < 2 ^ 63 → (x ≡ b → ⊥) → {w : ℕ} → w ≡ word_of (capped (Except.join b x)) → TakenBy except_kind plan p a b left off row at e w
  unfolding except_rule follow
  except_number s ne {w} q =
      part_then go off others h (omega arith)
      (λ m same above.
      let o : (m ≡ b → ⊥) = λ z. ne (sym (same s) ∙ z) in
      let v = subst (λ (n : ℕ). w ≡ word_of (capped (Except.join b n))) (sym (same s)) q in
      rw (ne_eqb m b o) (taken_number (Except.join b m) (omega arith) (h.inside (omega arith)) v))
