-- The whole t-th root, once over t.
--   pow_le     powers keep the order
--   zero_pow   those of 0; one_pow   and of 1
--   self_pow   a number is at most its power
--   root_is    root_of t n is a RootOf t n
--   root_one   no other number is
--   zero_root  that of 0
-- Assumes nothing.
use mathlib.Core.Path.{◌≡◌, refl}
use mathlib.Core.Bool.{Bool, true, false}
use Prim.Native.Nat.{ℕ, zero, suc, ◌+◌, ◌*◌, ◌/◌, ◌^◌, ◌≤◌, ◌<◌}
use native.Mathlib.Nat.{mul-le-mul, le_refl, pow-suc, pow-zero, mul-mul-mul_comm, not-suc-le-zero, one-le-pow, mod-lt, div-add-mod'}
use native.Mathlib.Omega.{arith}
use lib.Dec.{leb, eqb}
use borrow.Author.Tests.{eqb-true, leb-true, leb-false}
use Rattle.numbers.proofs.Tests.{pick_by}
use Rattle.numbers.specs.Power.{RootOf, raised, root_by, root_of}

pub pow_le : (t : ℕ) {a b : ℕ} → a ≤ b → a ^ t ≤ b ^ t
pow_le zero {a} {b} h = rw (pow-zero a, pow-zero b) (le_refl 1)
pow_le (suc t) {a} {b} h = rw (pow-suc a t, pow-suc b t) (mul-le-mul (pow_le t h) h)

pow_mul : (a b t : ℕ) → (a * b) ^ t ≡ a ^ t * b ^ t
pow_mul a b zero = rw (pow-zero (a * b), pow-zero a, pow-zero b)
pow_mul a b (suc t) = rw (pow-suc (a * b) t, pow-suc a t, pow-suc b t, pow_mul a b t) (mul-mul-mul_comm (a ^ t) (b ^ t) a b)

pub zero_pow : (t : ℕ) → 0 < t → 0 ^ t ≡ 0
zero_pow zero p = absurd (not-suc-le-zero p)
zero_pow (suc t) p = rw (pow-suc 0 t) (omega arith)

pub one_pow : (t : ℕ) → 1 ^ t ≡ 1
one_pow zero = pow-zero 1
one_pow (suc t) = rw (pow-suc 1 t, one_pow t)

pub self_pow : (r t : ℕ) → r ≤ r ^ suc t
self_pow r zero = rw (pow-suc r 0, pow-zero r) (omega arith)
self_pow zero (suc t) = omega arith
self_pow (suc r) (suc t) =
    let h = self_pow (suc r) t in
    rw (pow-suc (suc r) (suc t)) (omega (arith, h, mul-le-mul {n₁ = 1} {m₁ = suc r} {n₂ = suc r ^ suc t} {m₂ = suc r} (omega arith) (le_refl (suc r))))

-- ---- from the root of n / 2^t; q is 2^t
doubled : (t r : ℕ) → (2 * r) ^ t ≡ 2 ^ t * r ^ t
doubled t r = pow_mul 2 r t

low : (n q x : ℕ) → 0 < q → x ≤ n / q → q * x ≤ n
low n q x p h = omega (arith, div-add-mod' n q, mul-le-mul {n₁ = x} {m₁ = q} {n₂ = n / q} {m₂ = q} h (le_refl q))

high : (n q x : ℕ) → 0 < q → n / q < x → n < q * x
high n q x p h = omega (arith, div-add-mod' n q, mod-lt n p, mul-le-mul {n₁ = n / q + 1} {m₁ = q} {n₂ = x} {m₂ = q} (omega arith) (le_refl q))

raised_root : (t n r : ℕ) → RootOf t (n / 2 ^ t) r → RootOf t n (raised t n (2 * r))
raised_root t n r q =
    pick_by (RootOf t n) (leb ((2 * r + 1) ^ t) n)
    (λ e. record {
      within = leb-true _ n e;
      most = rw (two_more, doubled t (r + 1)) (high n (2 ^ t) ((r + 1) ^ t) some q.most);
    })
    (λ e. record { within = rw (doubled t r) (low n (2 ^ t) (r ^ t) some q.within); most = leb-false _ n e })
  where
    some : 0 < 2 ^ t
    some = one-le-pow t 2 (omega arith)

    two_more : 2 * r + 1 + 1 ≡ 2 * (r + 1)
    two_more = omega arith

half : (n q : ℕ) → 0 < q → n / (q * 2) * 2 ≤ n
half n q p =
    let s = n / (q * 2) * 2 in
    omega (arith, div-add-mod' n (q * 2), mul-le-mul {n₁ = 1} {m₁ = s} {n₂ = q} {m₂ = s} p (le_refl s))

smaller : (t f n : ℕ) → 0 < t → n ≤ suc f → n / 2 ^ t ≤ f
smaller zero f n p l = absurd (not-suc-le-zero p)
smaller (suc t) f n p l = rw (pow-suc 2 t) (omega (arith, half n (2 ^ t) (one-le-pow t 2 (omega arith))))

pub zero_root : (t n : ℕ) → 0 < t → n ≡ 0 → RootOf t n 0
zero_root t n p e = record { within = omega (arith, zero_pow t p); most = omega (arith, one-le-pow t (0 + 1) (omega arith)) }

root_on : (t n r : ℕ) → 0 < t → RootOf t (n / 2 ^ t) r → RootOf t n (elim (eqb n 0) [ true ↦ 0 | false ↦ raised t n (2 * r) ])
root_on t n r p h = by (eqb n 0) refl
  where
    by : (q : Bool) → eqb n 0 ≡ q → RootOf t n (elim q [ true ↦ 0 | false ↦ raised t n (2 * r) ])
    by true e = zero_root t n p (eqb-true n 0 e)
    by false e = raised_root t n r h

root_by_lem : (f t n : ℕ) → 0 < t → n ≤ f → RootOf t n (root_by f t n)
unfolding root_by
root_by_lem zero t n p l = zero_root t n p (omega arith)
root_by_lem (suc f) t n p l = root_on t n (root_by f t (n / 2 ^ t)) p (root_by_lem f t (n / 2 ^ t) p (smaller t f n p l))

pub root_is : (t n : ℕ) → 0 < t → RootOf t n (root_of t n)
unfolding root_of
root_is t n p = root_by_lem n t n p (le_refl n)

root_le : {t n r s : ℕ} → RootOf t n r → RootOf t n s → r ≤ s
root_le {t} {n} {r} {s} h k =
    let no : s < r → ⊥ = λ lt. omega (arith, pow_le t {a = s + 1} {b = r} (omega arith), h.within, k.most) in
    omega arith

pub root_one : {t n r s : ℕ} → RootOf t n r → RootOf t n s → r ≡ s
root_one h k = omega (arith, root_le h k, root_le k h)
