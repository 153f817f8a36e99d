-- `numbers::power::nearer` fits a word, and is at most the largest root.
-- Assumes nothing.
use mathlib.Core.Path.{◌≡◌}
use Prim.Native.Nat.{ℕ, ◌*◌, ◌-◌, ◌^◌, ◌≤◌, ◌<◌}
use native.Mathlib.Nat.{mul-le-mul, one-le-pow, pow-le-pow_right, div-le_self}
use native.Mathlib.Omega.{arith}
use Rattle.numbers.specs.Joined.{limit}
use Rattle.numbers.specs.Power.{root_of}
use Rattle.numbers.proofs.power.Largest.{top_small, word}
use Rattle.numbers.proofs.power.nearer.Goals as goal

module _ (t near : ℕ) (l : 3 ≤ t) (h : t ≤ 8) (k : near ≤ root_of t limit) where
  few : (t - 1) * near ≤ 8 * 2 ^ 24
  few = mul-le-mul {n₁ = t - 1} {m₁ = near} {n₂ = 8} {m₂ = 2 ^ 24} (omega arith) (omega (arith, top_small t l h))

  less : 0 < near → near ^ (t - 1) < 2 ^ 63
  less p = omega (arith, pow-le-pow_right {n = near} p {i = t - 1} {j = t} (omega arith), word t l h near k)

  some : 0 < near → {p : ℕ} → p ≡ near ^ (t - 1) → 0 < p
  some q e = omega (arith, one-le-pow (t - 1) near q)

pub overflow_mul-others : goal.overflow_mul-others
overflow_mul-others c =
    omega (arith, few _ _ c.requires.0 c.requires.1 c.requires.3)

pub power-requires : goal.power-requires
power-requires c =
    (omega arith, omega (arith, less _ _ c.requires.0 c.requires.1 c.requires.3 (omega arith)))

pub nonzero_div-n : goal.nonzero_div-n
nonzero_div-n c =
    some _ _ c.requires.0 c.requires.1 c.requires.3 (omega arith) c.power.ensures

pub overflow_add-others : goal.overflow_add-others
overflow_add-others c =
    omega (arith, few _ _ c.requires.0 c.requires.1 c.requires.3, div-le_self c.args.n c.power.result)
