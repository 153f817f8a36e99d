-- What the reading walk's calls ask, of what it has: a part at the same depth left, or one less.
--   Bounds       of a depth left, of what shifts take off, and of a place in the row
--   part_next    a later part, under no shifts
--   visit_..     the same for the calls of a visit, one depth less
-- Assumes nothing.
use mathlib.Core.Path.{◌≡◌}
use Prim.Native.Nat.{ℕ, ◌+◌, ◌-◌, ◌*◌, ◌^◌, ◌≤◌, ◌<◌}
use native.Mathlib.Omega.{arith}

abbrev Bounds : ℕ → ℕ → ℕ → ℕ → Type 0
Bounds left off at long = (left ≤ 200) × (off + left * 2 ^ 32 ≤ 200 * 2 ^ 32) × (at ≤ long) × (long ≤ 65536)

-- the calls of a shape, whose measure is one more
module _ {left t long : ℕ} (e : 2 * left + 1 ≡ t) where
  pub part_next : {next : ℕ} → left ≤ 200 → next ≤ long → long ≤ 65536 → {A : Type 0} → A → (2 * left < t) × (A × Bounds left 0 next long)
  part_next l n b r = (omega arith, (r, (l, omega arith, n, b)))

-- the calls of a visit
module _ {left t long : ℕ} (e : 2 * left ≡ t) (f : left ≡ 0 → ⊥) (off at : ℕ) (h : Bounds left off at long) where
  pub visit_part : {A : Type 0} → A → (2 * (left - 1) < t) × (A × Bounds (left - 1) off at long)
  visit_part r = (omega arith, (r, (omega (arith, h.0), omega (arith, h.1), h.2, h.3)))

  pub visit_shift : {b : ℕ} → b ≤ 2 ^ 32 → {A : Type 0} → A → (2 * (left - 1) < t) × (A × Bounds (left - 1) (off + b) at long)
  visit_shift l r = (omega arith, (r, (omega (arith, h.0), omega (arith, h.1), h.2, h.3)))

  pub visit_shape : {A : Type 0} → A → (2 * (left - 1) + 1 < t) × (A × Bounds (left - 1) off at long)
  visit_shape r = (omega arith, (r, (omega (arith, h.0), omega (arith, h.1), h.2, h.3)))

  pub visit_tagged : {A : Type 0} → A → (2 * (left - 1) + 1 < t) × (A × ((left - 1 ≤ 200) × (at ≤ long) × (long ≤ 65536)))
  visit_tagged r = (omega arith, (r, (omega (arith, h.0), h.2, h.3)))
