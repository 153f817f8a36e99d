-- Demand 1: a table that breaks a rule is refused by that rule's number and the node that broke it, and by nothing else.
--   Passes     a table whose lengths are right and whose nodes all pass their rows
--   Because    the five reasons of a verdict: 1, the lengths; 2 to 8, every node below k passes its row and k's row fails first with r; 9, the lowest node on
--              an unguarded cycle; 10, the lowest except on a cycle; and none of these
--   verdict_by, because, verdict_exactly   each reason has its verdict, each verdict its reason; both
-- Assumes nothing.
use mathlib.Core.Path.{◌≡◌, refl, subst}
use mathlib.Core.Bool.{Bool, true, false}
use mathlib.Core.Logic.{⊎_elim}
use mathlib.Core.List.{List}
use Prim.Native.Nat.{ℕ, ◌≤◌, ◌<◌}
use Rattle.grammar.specs.Refusals.{Verdict, accepted, refused}
use Rattle.numbers.specs.Size.{Size}
use Rattle.graph.specs.Lowest.{Lowest}
use Rattle.lists.proofs.Order.{le_or_lt}
use Rattle.graph.proofs.Lowest.{lowest_256}
use Rattle.grammar.specs.Table.{nodes, lengths}
use Rattle.grammar.specs.Refusals.{number_of}
use Rattle.grammar.specs.Sizes.{Scan, passed, faulty, size_at, scan}
use Rattle.grammar.specs.Steps.{Unguarded, ExceptOnCycle}
use Rattle.grammar.specs.Verdict.{unguarded, except_on_cycle, settled, verdict}
use Rattle.grammar.specs.declared.refusal.Refusal.{Refusal}
use Rattle.grammar.specs.declared.refusal.Refusal.TheVariants.{Length, Unguarded as Rule9, ExceptOnCycle as Rule10}
use Rattle.grammar.proofs.Faults.{FirstFault, in_row_lem, first_of, scan_by}
use Rattle.cycles.proofs.Table.{unguarded_is, except_is}
use Rattle.cases.proofs.Meaning.{table_checked, verdict_9, verdict_10, verdict_accepted}

-- ---- an unguarded cycle, an except on a cycle, or neither, among the sizes of a table whose nodes all pass
pub record Passes (t p : List ℕ) : Type 0 where
  pub long : lengths t p ≡ true
  pub zs : List Size
  pub rows : scan t p (nodes t) ≡ passed zs

abbrev Nines : (t p : List ℕ) → Passes t p → ℕ → Type 0
Nines t p h n = Lowest (Unguarded t p (size_at h.zs)) n

abbrev Tens : (t p : List ℕ) → Passes t p → ℕ → Type 0
Tens t p h n = Lowest (ExceptOnCycle t p (size_at h.zs)) n

-- what a verdict is, whatever it is
pub data Because (t p : List ℕ) : Verdict → Type 0 where
  by_length : lengths t p ≡ false → Because t p (refused Length 0)
  by_row : {r : Refusal} {k : ℕ} → lengths t p ≡ true → FirstFault t p r k → 2 ≤ number_of r → number_of r ≤ 8 → Because t p (refused r k)
  by_9 : (h : Passes t p) {n : ℕ} → n < 256 → Nines t p h n → Because t p (refused Rule9 n)
  by_10 : (h : Passes t p) {n : ℕ} → n < 256 → Nines t p h 256 → Tens t p h n → Because t p (refused Rule10 n)
  by_none : (h : Passes t p) → Nines t p h 256 → Tens t p h 256 → Because t p accepted

module _ (t p : List ℕ) where
  -- ---- each reason has its verdict
  pub verdict_by : {v : Verdict} → Because t p v → verdict t p ≡ v
  unfolding verdict settled
  verdict_by (by_length e) = rw e
  verdict_by (by_row e h lo hi) = rw (e, scan_by h)
  verdict_by (by_9 h {n} l w) = verdict_9 t p h.long h.rows n l w
  verdict_by (by_10 h {n} l u w) = verdict_10 t p h.long h.rows n l u w
  verdict_by (by_none h u w) = verdict_accepted t p h.long h.rows u w

  -- ---- and each verdict its reason
  passing : (h : Passes t p) → Because t p (verdict t p)
  passing h =
      let c = table_checked t p h.long h.rows in
      let u = unguarded_is c in
      let w = except_is c in
      ⊎_elim
      (λ past. let none : Nines t p h 256 = lowest_256 u past in
      ⊎_elim (λ beyond. of (by_none h none (lowest_256 w beyond))) (λ l. of (by_10 h l none w)) (le_or_lt 256 (except_on_cycle t p (size_at h.zs))))
      (λ l. of (by_9 h l u)) (le_or_lt 256 (unguarded t p (size_at h.zs)))
    where
      of : {v : Verdict} → Because t p v → Because t p (verdict t p)
      of b = rw (verdict_by b) b

  pub because : Because t p (verdict t p)
  because = by_lengths (lengths t p) refl
    where
      of : {v : Verdict} → Because t p v → Because t p (verdict t p)
      of b = rw (verdict_by b) b

      by_scan : lengths t p ≡ true → (s : Scan) → scan t p (nodes t) ≡ s → Because t p (verdict t p)
      by_scan e (passed zs) q = passing (record { long = e; zs = zs; rows = q })
      by_scan e (faulty r k) q = let f = first_of t p q in let (lo, hi) = in_row_lem t p (size_at f.zs) k f.fails in of (by_row e f lo hi)

      by_lengths : (b : Bool) → lengths t p ≡ b → Because t p (verdict t p)
      by_lengths false e = of (by_length e)
      by_lengths true e = by_scan e (scan t p (nodes t)) refl

pub verdict_exactly : (t p : List ℕ) (v : Verdict) → (verdict t p ≡ v → Because t p v) × (Because t p v → verdict t p ≡ v)
verdict_exactly t p v = (λ e. subst (Because t p) e (because t p), λ b. verdict_by t p b)
