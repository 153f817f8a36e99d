-- The walk of an accepted table ends at every number: "decoding never stops" is what refusals 9 and 10 rule out.
--   every_number   every number below the size of a node has a case at some depth, with no limit on depth and cells
-- What falls at each step: the excepts ahead, the number, the nodes ahead by steps that do not guard a cycle (`Ranks`).
-- Assumes nothing.
use mathlib.Core.Path.{◌≡◌, refl}
use mathlib.Core.Bool.{Bool, true, false}
use mathlib.Core.List.{List, map}
use Prim.Native.Nat.{ℕ, ◌<◌}
use Rattle.numbers.specs.Size.{Size, Below}
use Rattle.graph.specs.Paths.{Decides}
use Rattle.grammar.specs.Table.{nodes}
use Rattle.grammar.specs.Sizes.{size_at, sizes, rules_of}
use Rattle.grammar.specs.Steps.{Leads, Step, Unguarded, ExceptOnCycle}
use Rattle.grammar.specs.Verdict.{leads, verdict}
use Rattle.grammar.specs.Refusals.{accepted}
use Rattle.cycles.proofs.Steps.{step_to}
use Rattle.walk.specs.Walk.{cell, walk}
use Rattle.walk.proofs.Ends.{Ranked}
use Rattle.walk.proofs.Ends as Ending
use Rattle.cases.proofs.Meaning.{leads_is, accepted_means, accepted_long, accepted_passes, accepted_checked}
use Rattle.cases.proofs.Ranks.{rank, rank_falls, held, held_le, held_falls}

module _ (t p : List ℕ) (a : verdict t p ≡ accepted) where
  abbrev z : ℕ → Size
  z = size_at (sizes t p)

  decides : (guarded : Bool) (x y : ℕ) → Decides (Leads guarded t p z x y) (leads guarded t p z x y)
  decides guarded = leads_is t p (accepted_long t p a) (accepted_passes t p a) guarded

  inside : (guarded : Bool) (x y : ℕ) → Step guarded t p z x y → y < nodes t
  inside guarded x y e = step_to (accepted_checked t p a) x y guarded e

  no_unguarded : (k : ℕ) → Unguarded t p z k → ⊥
  no_unguarded k q = (accepted_means t p (accepted_long t p a) (accepted_passes t p a) a).0.none refl k q

  no_except : (k : ℕ) → ExceptOnCycle t p z k → ⊥
  no_except k q = (accepted_means t p (accepted_long t p a) (accepted_passes t p a) a).1.none refl k q

  is_except : ℕ → Bool
  is_except k = (rules_of t p k).skips

  excepts : ℕ → ℕ
  excepts = held (Step true t p z) (leads true t p z) (decides true) (nodes t) (inside true) is_except

  ahead : ℕ → ℕ
  ahead = rank (Step false t p z) (leads false t p z) (decides false) (nodes t) (inside false)

  ranked : (i : ℕ) → i < nodes t → Ranked excepts ahead i (rules_of t p i)
  unfolding excepts ahead is_except
  ranked i l = record {
    level = λ j s. held_le (Step true t p z) (leads true t p z) (decides true) (nodes t) (inside true) is_except i j s;
    drop = λ e j s.
        held_falls (Step true t p z) (leads true t p z) (decides true) (nodes t) (inside true) is_except i j s e
        (λ q. no_except i (record { is = e; cycle = q })) l;
    down = λ j s. rank_falls (Step false t p z) (leads false t p z) (decides false) (nodes t) (inside false) i j s (no_unguarded j);
  }

  pub every_number : (i : ℕ) → i < nodes t → (n : ℕ) → Below n (z i) → (d : ℕ) × (cs : List ℕ) × (walk (rules_of t p) d 0 i n ≡ map cell cs)
  every_number = Ending.every_number z (nodes t) (rules_of t p) (accepted_checked t p a).good excepts ahead ranked
