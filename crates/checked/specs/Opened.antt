-- A table that has passed the check and a start in it, as the code has them: what is opened, and what a call on it promises.
--   Place     a start in a checked table: the pool and the plan that the walks use
--   rules     the rules of its nodes
--   Stands    a start that the verdict accepts, with the table's rules
--   Opens     a start that stands, or the verdict's refusal
--   Called    what a call on an opened table answers and leaves of a buffer
-- Assumes nothing.
use Rattle.std.specs.Prelude.{◌≡◌, List, ℕ, Result, Ok, Err}
use Rattle.std.specs.Borrow.{Bor, MutBor}
use Rattle.grammar.specs.Sizes.{rules_of}
use Rattle.grammar.specs.declared.entry.Entry.{Entry}
use Rattle.grammar.specs.Plan.{rule_in}
use Rattle.grammar.specs.Refusals.{accepted}
use Rattle.grammar.specs.declared.refusal.Refused.{Refused}
use Rattle.grammar.specs.Rule.{Rule}
use Rattle.checked.specs.Opening.{opening}

-- a start in a checked table, as the walks see it
pub record Place : Type 0 where
  pub pool : List ℕ
  pub plan : List Entry
  pub start : ℕ

abbrev pub rules : Place → ℕ → Rule
rules o = rule_in o.plan o.pool

-- a place of that start, by the rules of that table
pub record Stands (t p : List ℕ) (i : ℕ) (o : Place) : Type 0 where
  pub accepts : opening t p i ≡ accepted
  pub same : rules o ≡ rules_of t p
  pub start : o.start ≡ i

abbrev pub OpensBy : List ℕ → List ℕ → ℕ → Result Place Refused → Type 0
OpensBy t p i (Ok o) = Stands t p i o
OpensBy t p i (Err e) = opening t p i ≡ Err e

pub record Opens (t p : List ℕ) (i : ℕ) (r : Result Place Refused) : Type 0 where
  pub is : OpensBy t p i r

-- what a call on an opened table has answered and left of its buffer, by what it promises of each
abbrev pub Called : {R : Type 0} → (Bor Place → MutBor (List ℕ) → R → MutBor (List ℕ) → Type 0) → List ℕ → List ℕ → ℕ → List ℕ → List ℕ → Result R Refused
    → Type 0
Called post t p i old last (Ok r) =
    (o : Bor Place) × (l : MutBor (List ℕ)) × (m : MutBor (List ℕ)) × Stands t p i o.now × (l.now ≡ old) × (m.now ≡ last) × post o l r m
Called post t p i old last (Err e) = (opening t p i ≡ Err e) × (last ≡ old)
