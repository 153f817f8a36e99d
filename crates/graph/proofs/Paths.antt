-- Paths of one or more steps, in any graph.
-- Assumes nothing.
use mathlib.Core.Logic.{◌⊎◌, inl, inr, ⊎_elim}
use Prim.Native.Nat.{ℕ, zero, suc, ◌≤◌, ◌<◌}
use native.Mathlib.Nat.{not-suc-le-zero, lt_irrefl, le_refl}
use native.Mathlib.Omega.{arith}
use Rattle.graph.specs.Paths.{Path}
use Rattle.graph.specs.Paths.Path.{one, more}

module _ {E : ℕ → ℕ → Type 0} where
  -- a path and one step more
  pub snoc : {a b c : ℕ} → Path E a b → E b c → Path E a c
  snoc (one e) f = more e (one f)
  snoc (more e q) f = more e (snoc q f)

  -- what the first step is
  uncons : {a b : ℕ} → Path E a b → E a b ⊎ ((m : ℕ) × E a m × Path E m b)
  uncons (one e) = inl e
  uncons (more {k} e q) = inr (k, e, q)

  -- what each step carries on, a path carries to its end
  pub carry : (C : ℕ → Type 0) → ((n m : ℕ) → C n → E n m → C m) → {a b : ℕ} → C a → Path E a b → C b
  carry C s c (one {n} {m} e) = s n m c e
  carry C s c (more {n} {k} e q) = carry C s (s n k c e) q

  pub carry_from : (C : ℕ → Type 0) → ((n m : ℕ) → C n → E n m → C m) → {a b : ℕ} → ((m : ℕ) → E a m → C m) → Path E a b → C b
  carry_from C s f (one {n} {m} e) = f m e
  carry_from C s f (more {n} {k} e q) = carry C s (f k e) q

  -- where no step of a node leads on to a cycle, or into one, no path from it comes to one
  pub to_no_cycle : {a : ℕ} → ((m : ℕ) → E a m → (j : ℕ) → Path E m j → Path E j j → ⊥) → (j : ℕ) → Path E a j → Path E j j → ⊥
  to_no_cycle f j (one e) c = f j e j c c
  to_no_cycle f j (more {k} e q) c = f k e j q c

  -- Where each step from a node of which A does not hold leads lower, A holds of a node on each cycle that is no higher than the node that we start at
  module _ (A : ℕ → Type 0) (A? : (n : ℕ) → A n ⊎ (A n → ⊥)) (lower : (n m : ℕ) → (A n → ⊥) → E n m → m < n) where
    low : (b k : ℕ) → k < b → Path E k k → (j : ℕ) × (j ≤ k) × A j × Path E j j
    low zero k h q = absurd (not-suc-le-zero h)
    low (suc b) k h q =
        ⊎_elim (λ a. (k, le_refl k, a, q))
        (λ f. ⊎_elim (λ e. absurd (lt_irrefl k (lower k k f e)))
        (λ w. let l : w.0 < k = lower k w.0 f w.1 in
        let (j, g, a, r) = low b w.0 (omega arith) (snoc w.2 w.1) in
        (j, omega arith, a, r))
        (uncons q))
        (A? k)

    pub lowest_on : {k : ℕ} → Path E k k → (j : ℕ) × (j ≤ k) × A j × Path E j j
    lowest_on {k} q = low (suc k) k (le_refl (suc k)) q
