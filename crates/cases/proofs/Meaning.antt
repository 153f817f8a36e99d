-- What the verdict means, for a reader who trusts paths and not a computed test. The nodes are judged one by one (`Rattle.grammar.specs.Nodes`). Of a table
-- whose
-- lengths are right and whose nodes all pass, the verdict is 9 with the lowest node on an unguarded cycle, else 10 with the lowest except on a cycle, else
-- accepted; a cycle is a path of any length from a node to itself.
--   leads_is                       the computed test agrees with paths of any length
--   verdict_9, _10, _accepted      the verdict by the cycles
--   accepted_means                 an accepted table has neither
--   accepted_small                 a node's size is 1 to 2^62 where it is finite
-- Assumes nothing.
use mathlib.Core.Path.{◌≡◌, refl, sym, subst, ◌∙◌}
use mathlib.Core.Bool.{Bool, true, false}
use mathlib.Core.Logic.{⊎_elim}
use mathlib.Core.List.{List}
use Prim.Native.Nat.{ℕ, ◌^◌, ◌≤◌, ◌<◌}
use borrow.Author.Tests.{lt-ltb}
use Rattle.numbers.specs.Size.{Size, finite}
use Rattle.graph.specs.Paths.{Decides}
use Rattle.graph.specs.Lowest.{Lowest}
use Rattle.lists.proofs.Order.{le_or_lt}
use Rattle.graph.proofs.Lowest.{lowest_256}
use Rattle.graph.proofs.Ways.{via_decide}
use Rattle.grammar.specs.Table.{nodes, lengths}
use Rattle.grammar.specs.Sizes.{Scan, passed, size_at, scan, sizes, sizes_in}
use Rattle.grammar.specs.Law.{Fit}
use Rattle.grammar.specs.Checked.{Checked}
use Rattle.grammar.specs.Steps.{Leads, Unguarded, ExceptOnCycle}
use Rattle.grammar.specs.Verdict.{leads, unguarded, except_on_cycle, cycles, settled, verdict}
use Rattle.grammar.specs.declared.refusal.Refusal.{Refusal}
use Rattle.grammar.specs.declared.refusal.Refusal.TheVariants.{Length, Unguarded as Rule9, ExceptOnCycle as Rule10}
use Rattle.grammar.specs.Refusals.{accepted, refused}
use Rattle.grammar.proofs.Checked.{checked_of}
use Rattle.grammar.proofs.Lengths.{lengths_are}
use Rattle.cycles.proofs.Table.{graph, unguarded_is, except_is, cycles_by}
use Rattle.checked.proofs.Opens.{refused_not}

module _ (t p : List ℕ) {zs : List Size} (long : lengths t p ≡ true) (pass : scan t p (nodes t) ≡ passed zs) where
  pub table_checked : Checked t p (size_at zs)
  table_checked = let (whole, _, few, _) = lengths_are t p (sym long) in checked_of t p pass whole few

  pub leads_is : (guarded : Bool) (a b : ℕ) → Decides (Leads guarded t p (size_at zs) a b) (leads guarded t p (size_at zs) a b)
  unfolding leads
  leads_is guarded a b = via_decide (graph guarded table_checked) a b

  verdict_is : verdict t p ≡ cycles t p (size_at zs)
  unfolding verdict settled
  verdict_is = rw (long, pass)

  pub verdict_9 : (n : ℕ) → n < 256 → Lowest (Unguarded t p (size_at zs)) n → verdict t p ≡ refused Rule9 n
  verdict_9 n l w = verdict_is ∙ sym (rw (lt-ltb n 256 l) at (cycles_by table_checked w (except_is table_checked)))

  pub verdict_10 : (n : ℕ) → n < 256 → Lowest (Unguarded t p (size_at zs)) 256 → Lowest (ExceptOnCycle t p (size_at zs)) n → verdict t p ≡ refused Rule10 n
  verdict_10 n l v w = verdict_is ∙ sym (rw (lt-ltb n 256 l) at (cycles_by table_checked v w))

  pub verdict_accepted : Lowest (Unguarded t p (size_at zs)) 256 → Lowest (ExceptOnCycle t p (size_at zs)) 256 → verdict t p ≡ accepted
  verdict_accepted v w = verdict_is ∙ sym (cycles_by table_checked v w)

  never : {r : Refusal} {n : ℕ} → verdict t p ≡ accepted → verdict t p ≡ refused r n → ⊥
  never a e = refused_not (sym e ∙ a)

  pub accepted_means : verdict t p ≡ accepted → Lowest (Unguarded t p (size_at zs)) 256 × Lowest (ExceptOnCycle t p (size_at zs)) 256
  accepted_means a =
      let u = unguarded_is table_checked in
      let x = except_is table_checked in
      let none : Lowest (Unguarded t p (size_at zs)) 256 = ⊎_elim (lowest_256 u) (λ l. absurd (never a (verdict_9 _ l u)))
      (le_or_lt 256 (unguarded t p (size_at zs))) in
      (none, ⊎_elim (lowest_256 x) (λ l. absurd (never a (verdict_10 _ l none x))) (le_or_lt 256 (except_on_cycle t p (size_at zs))))

-- ---- an accepted table
module _ (t p : List ℕ) (a : verdict t p ≡ accepted) where
  pub accepted_long : lengths t p ≡ true
  unfolding verdict
  accepted_long = by (lengths t p) refl
    where
      by : (q : Bool) → lengths t p ≡ q → lengths t p ≡ true
      by true e = e
      by false e = let w : verdict t p ≡ refused Length 0 = rw e in absurd (refused_not (sym w ∙ a))

  pub accepted_passes : scan t p (nodes t) ≡ passed (sizes t p)
  unfolding verdict settled sizes
  accepted_passes = by (scan t p (nodes t)) refl
    where
      by : (s : Scan) → scan t p (nodes t) ≡ s → scan t p (nodes t) ≡ passed (sizes_in (scan t p (nodes t)))
      by (passed zs) e = rw e
      by (Scan.faulty r k) e = let w : verdict t p ≡ refused r k = rw (accepted_long, e) in absurd (refused_not (sym w ∙ a))

  pub accepted_checked : Checked t p (size_at (sizes t p))
  accepted_checked = table_checked t p accepted_long accepted_passes

  pub accepted_small : (n : ℕ) → n < nodes t → (s : ℕ) → size_at (sizes t p) n ≡ finite s → (0 < s) × (s ≤ 2 ^ 62)
  accepted_small n l s e = subst Fit e (accepted_checked.fit n l)
