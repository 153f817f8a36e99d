-- A root that is looked for number by number, from a near one on; p is the power that was made.
--   some        a power above n is not that of 0
--   lowered     and then n is still below the next power where r is lowered by one
--   ends_here, ends_before   the power of the root is within n, and that of the next number is not
--   least       a number whose power is within n is at most the root
--   next_fits   so the power of the next one is a word, and it itself
-- Assumes nothing.
use mathlib.Core.Path.{◌≡◌, refl}
use Prim.Native.Nat.{ℕ, zero, suc, ◌+◌, ◌-◌, ◌^◌, ◌≤◌, ◌<◌}
use native.Mathlib.Omega.{arith}
use Rattle.numbers.specs.Power.{root_of}
use Rattle.numbers.proofs.power.Powers.{pow_le, zero_pow, self_pow, root_is, root_one}

module _ {t n p : ℕ} (r : ℕ) (l : 0 < t) (e : p ≡ r ^ t) where
  pub some : n < p → 0 < r
  some k = by r refl
    where
      by : (s : ℕ) → r ≡ s → 0 < r
      by zero z = absurd (omega (arith, (rw z at e), zero_pow t l))
      by (suc s) z = omega arith

  pub lowered : n < p → n < (r - 1 + 1) ^ t
  lowered k = let s : r - 1 + 1 ≡ r = omega (arith, some k) in rw s (omega arith)

  pub ends_here : p ≤ n → n < (r + 1) ^ t → r ≡ root_of t n
  ends_here h k = root_one (record { within = omega arith; most = k }) (root_is t n l)

module _ {t n p : ℕ} (r : ℕ) (l : 0 < t) (e : p ≡ (r + 1) ^ t) where
  pub ends_before : r ^ t ≤ n → n < p → r ≡ root_of t n
  ends_before h k = root_one (record { within = h; most = omega arith }) (root_is t n l)

own : (t r : ℕ) → 0 < t → r ≤ r ^ t
own zero r l = absurd (omega arith)
own (suc t) r l = self_pow r t

module _ (t n : ℕ) (l : 0 < t) (r : ℕ) (h : r ^ t ≤ n) where
  pub least : r ≤ root_of t n
  least =
      let s = root_of t n in
      let no : s < r → ⊥ = λ lt. omega (arith, pow_le t {a = s + 1} {b = r} (omega arith), (root_is t n l).most) in
      omega arith

  pub next_fits : (root_of t n + 1) ^ t < 2 ^ 64 → (r + 1) ^ t < 2 ^ 64
  next_fits w = omega (arith, pow_le t {a = r + 1} {b = root_of t n + 1} (omega (arith, least)))

  pub next_word : (root_of t n + 1) ^ t < 2 ^ 64 → r + 1 < 2 ^ 64
  next_word w = omega (arith, own t (r + 1) l, next_fits w)
