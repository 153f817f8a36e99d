-- `numbers::power::root` is the whole root: from any guess up to the largest root it goes down, or up.
-- Assumes nothing.
use mathlib.Core.Path.{◌≡◌}
use Prim.Native.Nat.{ℕ, ◌+◌, ◌-◌, ◌/◌, ◌^◌, ◌≤◌, ◌<◌}
use native.Mathlib.Nat.{mod-lt, div-add-mod', one-le-pow}
use native.Mathlib.Omega.{arith}
use Rattle.numbers.specs.Joined.{limit}
use Rattle.numbers.specs.Power.{root_of}
use Rattle.numbers.proofs.power.Powers.{one_pow, root_is, root_one, zero_root}
use Rattle.numbers.proofs.power.Largest.{word, fits, in_range}
use Rattle.numbers.proofs.power.Near.{some, lowered}
use Rattle.numbers.proofs.power.root.Goals as goal

none : (t n : ℕ) → 3 ≤ t → n ≡ 0 → 0 ≡ root_of t n
none t n l e = root_one (zero_root t n (omega arith) e) (root_is t n (omega arith))

one : (t n : ℕ) → 3 ≤ t → (n ≡ 0 → ⊥) → n / 2 ^ t ≡ 0 → 1 ≡ root_of t n
one t n l f e =
    let h : n < 2 ^ t = omega (arith, (rw e at (div-add-mod' n (2 ^ t))), mod-lt n (one-le-pow t 2 (omega arith))) in
    root_one (record { within = rw (one_pow t) (omega arith); most = h }) (root_is t n (omega arith))

-- the root of a number that a walk has is at most the largest
next : (t n : ℕ) → 3 ≤ t → t ≤ 8 → n ≤ limit → (root_of t n + 1) ^ t < 2 ^ 64
next t n l h k = omega (arith, fits t l h _ (in_range t l h n _ k (root_is t n (omega arith)).within))

pub returns-then-n-eq0 : goal.returns-then-n-eq0
returns-then-n-eq0 c =
    none _ _ c.requires.0 c.if-n-eq0.true

pub returns-then-n-t-eq0 : goal.returns-then-n-t-eq0
returns-then-n-t-eq0 c =
    one _ _ c.requires.0 c.if-n-eq0.false c.if-n-t-eq0.true

pub power-requires : goal.power-requires
power-requires c =
    (c.requires.1, omega (arith, word _ c.requires.0 c.requires.1 _ c.guess-near.ensures))

pub overflow_sub-near : goal.overflow_sub-near
overflow_sub-near c =
    some _ (omega arith) c.power.ensures c.if-n-power.true

pub down-requires : goal.down-requires
down-requires c =
    (omega arith, c.requires.1, omega (arith, word _ c.requires.0 c.requires.1 (c.guess-near.result - 1) (omega (arith, c.guess-near.ensures))))

pub returns-then-n-power : goal.returns-then-n-power
returns-then-n-power c =
    c.down.ensures.root (lowered _ (omega arith) c.power.ensures c.if-n-power.true)

pub up-requires : goal.up-requires
up-requires c =
    (omega arith, c.requires.1, rw c.power.ensures at c.if-n-power.false, next _ _ c.requires.0 c.requires.1 c.requires.2)
