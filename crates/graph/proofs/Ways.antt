-- The test of `specs/Ways` agrees with paths of any length: `via_sound`, `via_complete`, and both as `via_decide`.
-- Assumes nothing.
use mathlib.Core.Path.{◌≡◌, sym, ◌∙◌}
use mathlib.Core.Bool.{true, ◌&&◌, false≢true}
use mathlib.Core.Logic.{◌⊎◌, inl, inr, ⊎_elim}
use mathlib.Core.List.{List, [], ◌∷◌, Memᴰ}
use Prim.Native.Nat.{ℕ, zero, suc, ◌<◌}
use native.Mathlib.Nat.{not-suc-le-zero}
use native.Mathlib.Omega.{arith}
use lib.Dec.{eqb}
use borrow.Author.Tests.{eqb-true, eq-eqb}
use Rattle.numbers.proofs.Tests.{and_left, and_right, or_left, or_right, or_true}
use Rattle.graph.specs.Paths.{Path, Decides}
use Rattle.graph.specs.Paths.Path.{one, more}
use Rattle.lists.proofs.Order.{same?}
use Rattle.graph.proofs.Search.{Finite}
use Rattle.graph.specs.Ways.{via}
use Rattle.lists.specs.Lists.{has}

-- Tests and lists
has_mem : (b : ℕ) (xs : List ℕ) → has b xs ≡ true → Memᴰ b xs
unfolding has
has_mem b [] e = absurd (false≢true e)
has_mem b (x ∷ xs) e = ⊎_elim (λ i. Memᴰ.head (eqb-true b x i)) (λ i. Memᴰ.tail (has_mem b xs i)) (or_true (eqb b x) (has b xs) e)

mem_has : {b : ℕ} {xs : List ℕ} → Memᴰ b xs → has b xs ≡ true
unfolding has
mem_has {b} (Memᴰ.head {x} {xs} e) = or_left (eqb b x) (has b xs) (eq-eqb b x e)
mem_has {b} (Memᴰ.tail {x} {xs} i) = or_right (eqb b x) (has b xs) (mem_has i)

-- A path whose nodes in between are all below k
data Way (E : ℕ → ℕ → Type 0) (k : ℕ) : ℕ → ℕ → Type 0 where
  one_step : {a b : ℕ} → E a b → Way E k a b
  more_steps : {a c b : ℕ} → E a c → c < k → Way E k c b → Way E k a b

module _ {E : ℕ → ℕ → Type 0} where
  path_then : {a c b : ℕ} → Path E a c → Path E c b → Path E a b
  path_then (one e) r = more e r
  path_then (more e q) r = more e (path_then q r)

  path_way : (k : ℕ) → ((a b : ℕ) → E a b → b < k) → {a b : ℕ} → Path E a b → Way E k a b
  path_way k in-k (one e) = one_step e
  path_way k in-k (more {n} {k = c} e q) = more_steps e (in-k n c e) (path_way k in-k q)

  -- none in between
  way_zero : {a b : ℕ} → Way E 0 a b → E a b
  way_zero (one_step e) = e
  way_zero (more_steps e l q) = absurd (not-suc-le-zero l)

  -- node k is not passed, or it is: the ways before its first time and after its last
  way_suc : {k a b : ℕ} → Way E (suc k) a b → Way E k a b ⊎ (Way E k a k × Way E k k b)
  way_suc (one_step e) = inl (one_step e)
  way_suc {k} {a} {b} (more_steps {c} e l q) = ⊎_elim (λ same. inr (at_k same (way_suc q))) (λ other. below_k (omega arith) (way_suc q)) (same? c k)
    where
      at_k : c ≡ k → Way E k c b ⊎ (Way E k c k × Way E k k b) → Way E k a k × Way E k k b
      at_k same (inl r) = (one_step (rw same at e), rw same at r)
      at_k same (inr r) = (one_step (rw same at e), r.1)

      below_k : c < k → Way E k c b ⊎ (Way E k c k × Way E k k b) → Way E k a b ⊎ (Way E k a k × Way E k k b)
      below_k m (inl r) = inl (more_steps e m r)
      below_k m (inr r) = inr (more_steps e m r.0, r.1)

module _ {E : ℕ → ℕ → Type 0} {next : ℕ → List ℕ} {n : ℕ} (g : Finite E next n) where
  pub via_sound : (k a b : ℕ) → via next k a b ≡ true → Path E a b
  unfolding via
  via_sound zero a b e = one (g.of_next a b (has_mem b (next a) e))
  via_sound (suc k) a b e =
      ⊎_elim (via_sound k a b)
      (λ both. path_then (via_sound k a k (and_left _ (via next k k b) both)) (via_sound k k b (and_right (via next k a k) _ both)))
      (or_true (via next k a b) (via next k a k && via next k k b) e)

  way_via : (k a b : ℕ) → Way E k a b → via next k a b ≡ true
  unfolding via
  way_via zero a b q = mem_has (g.to_next a b (way_zero q))
  way_via (suc k) a b q =
      ⊎_elim (λ r. or_left (via next k a b) (via next k a k && via next k k b) (way_via k a b r))
      (λ r. or_right (via next k a b) (via next k a k && via next k k b) (rw (way_via k a k r.0, way_via k k b r.1)))
      (way_suc q)

  pub via_complete : (a b : ℕ) → Path E a b → via next n a b ≡ true
  via_complete a b q = way_via n a b (path_way n g.inside q)

  -- the test agrees with the paths
  pub via_decide : (a b : ℕ) → Decides (Path E a b) (via next n a b)
  via_decide a b = record { yes = via_sound n a b; no = λ e q. false≢true (sym e ∙ via_complete a b q) }
