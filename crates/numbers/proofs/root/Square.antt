-- The square root is the root at t = 2.
--   two            a square
--   square_root    its root
--   square_fits    a word's root squared fits a word
--   searched       what the search down from a root or more gives
-- Assumes nothing.
use mathlib.Core.Path.{◌≡◌, ◌∙◌}
use Prim.Native.Nat.{ℕ, ◌+◌, ◌*◌, ◌-◌, ◌^◌, ◌<◌}
use native.Mathlib.Nat.{mul-le-mul, pow-suc, pow-zero}
use native.Mathlib.Omega.{arith}
use Rattle.numbers.specs.Root.{root, Above}
use Rattle.numbers.specs.Power.{root_of}
use Rattle.numbers.proofs.power.Powers as Powers
use Rattle.numbers.proofs.root.WholeRoot.{root_is, root_one}

pub two : (r : ℕ) → r ^ 2 ≡ r * r
two r = rw (pow-suc r 1, pow-suc r 0, pow-zero r) (omega arith)

pub square_root : (n : ℕ) → root_of 2 n ≡ root n
square_root n =
    let r = Powers.root_is 2 n (omega arith) in
    root_one (record { within = rw two at r.within; most = rw two at r.most }) (root_is n)

pub square_fits : (r : ℕ) → r < 2 ^ 32 → r ^ 2 < 2 ^ 64
square_fits r h = rw two (omega (arith, mul-le-mul {n₁ = r} {m₁ = r} {n₂ = 2 ^ 32 - 1} {m₂ = 2 ^ 32 - 1} (omega arith) (omega arith)))

pub searched : {n near r : ℕ} → Above n near → (n < (near + 1) ^ 2 → r ≡ root_of 2 n) → r ≡ root n
searched {n} {near} a f = f (rw two a.above) ∙ square_root n
