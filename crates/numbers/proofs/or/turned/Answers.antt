-- `numbers::or::turned` is the number of a part's number, capped.
-- Assumes nothing.
use mathlib.Core.Path.{◌≡◌, ap, ◌∙◌}
use Prim.Native.Nat.{ℕ, ◌+◌, ◌*◌, ◌≤◌, ◌<◌}
use native.Mathlib.Omega.{arith}
use borrow.Author.Tests.{lt-ltb, le-ltb}
use Rattle.numbers.specs.Size.{Size, size_of}
use Rattle.numbers.specs.Joined.{capped, limit}
use Rattle.numbers.specs.Or.{turn}
use Rattle.numbers.proofs.joined.Capped.{is_big, of_some, of_none}
use Rattle.numbers.proofs.or.SplitJoin.{turn_least}
use Rattle.numbers.proofs.size.SizeWords.{by_size}
use Rattle.numbers.proofs.or.turned.Goals.{then-m-u, else-m-u}
use Rattle.numbers.proofs.or.turned.Goals as goal

module _ (b u m : ℕ) {k : ℕ} (e : (k ≡ m) × (m < limit)) where
  inside : k < u → 2 * k + b ≡ turn b (size_of u) m
  inside h = by_size (λ (a : Size). 2 * k + b ≡ turn b a m) u (λ f. rw (lt-ltb m u (omega arith)) (omega arith)) (λ f. omega arith)

  past : u ≤ k → k + u ≡ turn b (size_of u) m
  past h = by_size (λ (a : Size). k + u ≡ turn b a m) u (λ f. rw (le-ltb m u (omega arith)) (omega arith)) (λ f. absurd (omega arith))

pub returns-in_err-m : goal.returns-in_err-m
returns-in_err-m c =
    c.from_residual.ensures ∙ is_big _ (omega (arith, of_none _ c.in_err-m.ensures, turn_least c.args.b (size_of c.args.u) c.args.m))

pub overflow_mul-m : goal.overflow_mul-m
overflow_mul-m c =
    omega (arith, of_some _ _ c.in_ok-m.ensures)

pub overflow_add-m : goal.overflow_add-m
overflow_add-m c =
    omega (arith, of_some _ _ c.in_ok-m.ensures)

pub overflow_add-m-else-m-u : goal.overflow_add-m-else-m-u
overflow_add-m-else-m-u c =
    omega (arith, of_some _ _ c.in_ok-m.ensures)

pub returns : goal.returns
returns c =
    let e = of_some _ _ c.in_ok-m.ensures in
    c.cap-2.ensures ∙ ap capped (elim c.if-m-u.branch [
      | then-m-u w ↦ w.cap-is ∙ inside _ _ _ e w.if-m-u.true
      | else-m-u w ↦ w.cap-is ∙ past _ _ _ e w.if-m-u.false
    ])
