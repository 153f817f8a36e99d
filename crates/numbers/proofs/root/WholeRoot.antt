-- The whole square root.
--   root_is    root n is a Root of n
--   root_one   no other number is
--   root_of    the root of a square and a remainder of at most twice its side
-- Assumes nothing.
use mathlib.Core.Path.{◌≡◌, refl}
use mathlib.Core.Bool.{Bool, true, false}
use Prim.Native.Nat.{ℕ, zero, suc, ◌+◌, ◌*◌, ◌/◌, ◌≤◌, ◌<◌}
use native.Mathlib.Nat.{mul-mul-mul_comm, mul-le-mul, le_refl}
use native.Mathlib.Omega.{arith}
use lib.Dec.{leb, eqb}
use borrow.Author.Tests.{eqb-true, leb-true, leb-false}
use Rattle.numbers.specs.Root.{Root, raised, root_by, root}
use Rattle.numbers.proofs.Tests.{pick_by}

doubled : (x : ℕ) → (2 * x) * (2 * x) ≡ 4 * (x * x)
doubled x = mul-mul-mul_comm 2 x 2 x

-- from the root of a quarter
raised_root : (n r : ℕ) → Root (n / 4) r → Root n (raised n (2 * r))
raised_root n r q =
    pick_by (Root n) (leb ((2 * r + 1) * (2 * r + 1)) n)
    (λ t. record { within = leb-true _ n t; most = rw two_more (omega (arith, doubled (r + 1), q.most)) })
    (λ f. record { within = omega (arith, doubled r, q.within); most = leb-false _ n f })
  where
    two_more : 2 * r + 1 + 1 ≡ 2 * (r + 1)
    two_more = omega arith

root_by_lem : (f n : ℕ) → n ≤ f → Root n (root_by f n)
unfolding root_by
root_by_lem zero n l = let e : n ≡ 0 = omega arith in rw e (record { within = le_refl 0; most = le_refl 1 })
root_by_lem (suc f) n l = by (eqb n 0) refl (root_by_lem f (n / 4) (omega arith))
  where
    by : (q : Bool) → eqb n 0 ≡ q → Root (n / 4) (root_by f (n / 4)) → Root n (elim q [ true ↦ 0 | false ↦ raised n (2 * root_by f (n / 4)) ])
    by true e h = let z : n ≡ 0 = eqb-true n 0 e in rw z (record { within = le_refl 0; most = le_refl 1 })
    by false e h = raised_root n (root_by f (n / 4)) h

pub root_is : (n : ℕ) → Root n (root n)
unfolding root
root_is n = root_by_lem n n (le_refl n)

root_le : {n r s : ℕ} → Root n r → Root n s → r ≤ s
root_le {n} {r} {s} h k =
    let no : s < r → ⊥ = λ lt. omega (arith, mul-le-mul {n₁ = s + 1} {m₁ = s + 1} {n₂ = r} {m₂ = r} (omega arith) (omega arith), h.within, k.most) in
    omega arith

pub root_one : {n r s : ℕ} → Root n r → Root n s → r ≡ s
root_one h k = omega (arith, root_le h k, root_le k h)

pub root_of : (r d : ℕ) → d ≤ 2 * r → root (r * r + d) ≡ r
root_of r d h = root_one (root_is (r * r + d)) (record { within = omega arith; most = omega arith })
