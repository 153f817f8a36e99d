-- The steps of a node, by its kind.
--   steps_by        the nodes that a node names are those of its kind's rule
--   steps_as        the same by the kind that its word is read as
--   dep_first, dep_run   what the code of dep has of its first part and of its seconds; dep_steps the nodes that it names
-- Assumes nothing.
use mathlib.Core.Path.{◌≡◌, sym, subst, ap}
use mathlib.Core.Bool.{Bool}
use mathlib.Core.List.{List, ◌∷◌}
use Prim.Native.Nat.{ℕ, ◌+◌, ◌≤◌, ◌<◌}
use native.Mathlib.Omega.{arith}
use lib.ListN.{length}
use borrow.Author.Tests.{ltb-true}
use Rattle.numbers.specs.Size.{Size}
use Rattle.grammar.specs.declared.entry.Entry.{Entry}
use Rattle.grammar.specs.declared.kind.Kind.{Kind}
use Rattle.grammar.specs.Table.{kind_of, a_of, b_of, nodes}
use Rattle.grammar.specs.Checks.{count}
use Rattle.grammar.specs.Law.{Holds}
use Rattle.grammar.specs.Kind.{before}
use Rattle.grammar.specs.kinds.Dep.{dep_rule}
use Rattle.grammar.specs.kinds.{kind_in}
use Rattle.grammar.specs.KindWords.{word_of_kind}
use Rattle.grammar.specs.Nodes.{node_at, rule_at}
use Rattle.grammar.specs.Steps.{steps_of}
use Rattle.grammar.specs.Plan.{size_in, Ready}
use Rattle.grammar.specs.Seconds.{firsts}
use Rattle.grammar.specs.Shown.{seconds_in}
use Rattle.grammar.proofs.Stepping.{few_word}
use Rattle.grammar.proofs.laws.Dep.{Shown, shows}

module _ (guarded : Bool) (t p : List ℕ) (z : ℕ → Size) (n : ℕ) where
  pub steps_by : {k : ℕ} → kind_of t n ≡ k → ((kind_in k).rule (a_of t n) (b_of t n) p (before z n)).steps guarded ≡ steps_of guarded t p z n
  unfolding rule_at
  steps_by e = sym (ap (λ (k : ℕ). ((kind_in k).rule (a_of t n) (b_of t n) p (before z n)).steps guarded) e)

  -- by the kind that the node's word is read as
  pub steps_as : (k : Kind) → word_of_kind k ≡ kind_of t n
      → ((kind_in (word_of_kind k)).rule (a_of t n) (b_of t n) p (before z n)).steps guarded ≡ steps_of guarded t p z n
  steps_as k e = steps_by (sym e)

-- ---- a dep
module _ {t p : List ℕ} {plan : List Entry} (r : Ready t p plan) {n : ℕ} (l : n < nodes t) (e : kind_of t n ≡ 6) where
  shown : Shown (node_at t p n) (size_in plan)
  shown = shows _ (size_in plan) (subst (λ (k : ℕ). Holds ((kind_in k).checks (node_at t p n) (before (size_in plan) n))) e (r.checked.holds n l))

  few_firsts : count (size_in plan (a_of t n)) ≡ firsts plan (a_of t n)
  few_firsts = few_word (firsts plan (a_of t n)) shown.small

  pub dep_first : a_of t n < length plan
  dep_first = omega (arith, ltb-true (a_of t n) n shown.low, l, r.long)

  pub dep_run : b_of t n + firsts plan (a_of t n) ≤ length p
  dep_run = rw few_firsts at shown.inside

  pub dep_steps : (guarded : Bool) → a_of t n ∷ seconds_in plan p (a_of t n) (b_of t n) ≡ steps_of guarded t p (size_in plan) n
  unfolding dep_rule
  dep_steps guarded = rw (shown.low, few_firsts) at (steps_by guarded t p (size_in plan) n e)
