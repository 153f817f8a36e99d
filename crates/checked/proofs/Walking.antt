-- A prepared table may be walked.
--   same_rules     the plan's rules are the table's
--   walkable, stands_at   so the plan may be walked, from each of the table's nodes
-- Assumes nothing.
use mathlib.Core.Path.{◌≡◌, sym, subst, ap, ◌∙◌, fun_ext}
use mathlib.Core.Logic.{⊎_elim}
use mathlib.Core.List.{List}
use Prim.Native.Nat.{ℕ, ◌+◌, ◌*◌, ◌≤◌, ◌<◌}
use native.Mathlib.Omega.{arith}
use lib.ListN.{get_or, get_or-eq_default}
use Rattle.numbers.specs.Size.{Size, NotZero}
use Rattle.lists.proofs.Order.{le_or_lt}
use Rattle.grammar.specs.declared.entry.Entry.{Entry}
use Rattle.grammar.specs.Table.{kind_of, a_of, b_of, nodes}
use Rattle.grammar.specs.Kind.{Node, before}
use Rattle.grammar.specs.Law.{Holds, Good}
use Rattle.grammar.specs.kinds.{kind_in}
use Rattle.grammar.specs.Nodes.{node_at, rule_at}
use Rattle.grammar.specs.Sizes.{size_at, sizes, rules_of}
use Rattle.grammar.specs.Plan.{size_in, kind_word, a_word, b_word, node_in, rule_in}
use Rattle.grammar.proofs.KindLaw.{fit_some}
use Rattle.planning.proofs.Plans.{plan_sizes}
use Rattle.walk.specs.Plan.{Walkable, Reading}
use Rattle.checked.specs.Prepared.{Planning}

module _ {t p : List ℕ} {plan : List Entry} (h : Planning t p plan) where
  -- a word of the plan past the table's nodes is 0, and so is one of the table
  beyond : (k j : ℕ) → nodes t ≤ k → 3 * k ≤ j → get_or t j 0 ≡ 0
  beyond k j l m = get_or-eq_default t 0 (omega (arith, h.checked.whole))

  same_kind : (k : ℕ) → kind_word plan k ≡ kind_of t k
  same_kind k = ⊎_elim (λ l. (h.plans.blank k l).0 ∙ sym (beyond k (3 * k) l (omega arith))) (h.plans.kind k) (le_or_lt (nodes t) k)

  same_a : (k : ℕ) → a_word plan k ≡ a_of t k
  same_a k = ⊎_elim (λ l. (h.plans.blank k l).1 ∙ sym (beyond k (3 * k + 1) l (omega arith))) (h.plans.a k) (le_or_lt (nodes t) k)

  same_b : (k : ℕ) → b_word plan k ≡ b_of t k
  same_b k = ⊎_elim (λ l. (h.plans.blank k l).2 ∙ sym (beyond k (3 * k + 2) l (omega arith))) (h.plans.b k) (le_or_lt (nodes t) k)

  same_sizes : size_in plan ≡ size_at (sizes t p)
  same_sizes = plan_sizes h.plans

  pub same_rules : rule_in plan p ≡ rules_of t p
  unfolding rule_in rule_at
  same_rules = fun_ext (λ k.
      ap (λ (w : ℕ). (kind_in w).rule (a_word plan k) (b_word plan k) p (before (size_in plan) k)) (same_kind k)
      ∙ (ap (λ (a : ℕ). (kind_in (kind_of t k)).rule a (b_word plan k) p (before (size_in plan) k)) (same_a k)
      ∙ (ap (λ (b : ℕ). (kind_in (kind_of t k)).rule (a_of t k) b p (before (size_in plan) k)) (same_b k)
      ∙ ap (λ (z : ℕ → Size). (kind_in (kind_of t k)).rule (a_of t k) (b_of t k) p (before z k)) same_sizes)))

  same_node : (k : ℕ) → node_in plan p (nodes t) k ≡ node_at t p k
  same_node k =
      ap (λ (f : ℕ → ℕ). the_node (a_word plan k) (b_word plan k) f) (fun_ext same_kind) ∙ rw (same_a k, same_b k)
    where
      the_node : ℕ → ℕ → (ℕ → ℕ) → Node
      the_node a b f = record { own = k; a = a; b = b; kind = f; nodes = nodes t; pool = p }

  pub holds : (k : ℕ) → k < nodes t → Holds ((kind_in (kind_word plan k)).checks (node_in plan p (nodes t) k) (before (size_in plan) k))
  holds k l = rw (same_sizes, same_node k, same_kind k) (h.checked.holds k l)

  pub good : Good (size_in plan) (nodes t) (rule_in plan p)
  good = rw (same_sizes, same_rules) h.checked.good

  pub some : (k : ℕ) → k < nodes t → NotZero (size_in plan k)
  some k l = subst (λ (z : ℕ → Size). NotZero (z k)) (sym same_sizes) (fit_some (size_at (sizes t p) k) (h.checked.fit k l))

  abbrev pub walkable : Walkable plan p
  walkable = record { count = nodes t; long = h.plans.long; good = good; holds = holds; some = some; short = h.short; slight = h.slight }

-- a start that is in the table may be walked from
abbrev pub stands_at : {t p : List ℕ} {plan : List Entry} → Planning t p plan → {i : ℕ} → i < nodes t → Reading plan p i
stands_at h l = record { walks = walkable h; node = l }
