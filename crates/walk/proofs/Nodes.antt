-- A node of a plan, whatever its kind: its rule is its kind's, by the plan's sizes.
--   rule_of, tree_by, items_by, parts_by   its rule, tree and items, and the nodes that it names
--   below_by      a visit is at a number below the size of its rule
--   checks_by, checked_by   its checks are passed, and what follows from them
--   kind_at       the kind of a node
--   reads_..      other nodes of the plan; two-.. of two parts
--   raised_..     what stands under a shift
-- Assumes nothing.
use mathlib.Core.Path.{◌≡◌, refl, sym, ap, subst, ◌∙◌}
use mathlib.Core.Bool.{true, false, ◌||◌, false≢true}
use mathlib.Core.Logic.{◌⊎◌, inl, inr, ⊎_elim}
use mathlib.Core.List.{List, [], ◌∷◌}
use Prim.Native.Nat.{ℕ, ◌<◌}
use native.Mathlib.Omega.{arith}
use lib.Dec.{eqb}
use lib.ListN.{get_or}
use borrow.Author.Tests.{eqb-true}
use Rattle.numbers.specs.Size.{Size, Below, NotZero, size_of}
use Rattle.numbers.proofs.size.SizeWords.{by_size}
use Rattle.grammar.specs.declared.entry.Entry.{Entry}
use Rattle.grammar.specs.Rule.{Item, part, Rule}
use Rattle.grammar.specs.Kind.{Node, before}
use Rattle.grammar.specs.Law.{Holds, Under}
use Rattle.grammar.specs.kinds.{kinds, unknown, kind_in}
use Rattle.grammar.specs.declared.kind.Kind.{Kind as Word}
use Rattle.grammar.specs.KindWords.{word_of_kind}
use Rattle.grammar.specs.Plan.{blank, size_word, size_in, kind_word, a_word, b_word, node_in, rule_in}
use Rattle.numbers.proofs.Tests.{or_true}
use Rattle.grammar.proofs.KindLaw.{KindLaw, each_kind}
use Rattle.grammar.proofs.laws.{laws, unknown_law}
use Rattle.grammar.proofs.laws.Shift.{bare}
use Rattle.walk.specs.Plan.{Reading, Visits, Raised}
use Rattle.walk.proofs.Visit.{visited}

-- a word of a size that is not 0
pub some_word : (w : ℕ) → NotZero (size_of w) → 0 < w
some_word w = by_size (λ s. NotZero s → 0 < w) w (λ l h. h) (λ l h. omega arith)

-- ---- the rule, by the kind
abbrev pub kind_at : List Entry → ℕ → Word
kind_at plan i = (get_or plan i blank).kind

pub tree_of : {q r : Rule} → q ≡ r → q.tree ≡ r.tree
tree_of e = ap (λ (r : Rule). r.tree) e

pub items_of : {q r : Rule} → q ≡ r → {n : ℕ} → q.items n ≡ r.items n
items_of e {n} = ap (λ (r : Rule). r.items n) e

-- a part at a number that the code has
pub part_at : {a m n : ℕ} → m ≡ n → part a n 0 ∷ [] ≡ part a m 0 ∷ []
part_at {a} e = ap (λ (m : ℕ). part a m 0 ∷ []) (sym e)

module _ {plan : List Entry} {p : List ℕ} {i : ℕ} (r : Reading plan p i) where
  abbrev ruled : Word → Rule
  ruled k = (kind_in (word_of_kind k)).rule (a_word plan i) (b_word plan i) p (size_in plan)

  pub checks_by : {k : Word} → kind_at plan i ≡ k
      → Holds ((kind_in (word_of_kind k)).checks (node_in plan p r.walks.count i) (before (size_in plan) i))
  checks_by e = subst (λ k. Holds ((kind_in (word_of_kind k)).checks (node_in plan p r.walks.count i) (before (size_in plan) i))) e (r.walks.holds i r.node)

  -- what follows from the checks of its kind
  pub checked_by : {k : Word} → kind_at plan i ≡ k → {P : Node → Type 0}
      → ((v : Node) (z : ℕ → Size) → Holds ((kind_in (word_of_kind k)).checks v z) → P v)
      → P (node_in plan p r.walks.count i)
  checked_by e f = f _ _ (checks_by e)

  pub rule_of : {k : Word} → kind_at plan i ≡ k → rule_in plan p i ≡ ruled k
  unfolding rule_in
  rule_of e =
      (each_kind KindLaw kinds unknown laws unknown_law (kind_word plan i)).sees (node_in plan p r.walks.count i) (size_in plan) (r.walks.holds i r.node)
      ∙ ap ruled e

  pub tree_by : {k : Word} → kind_at plan i ≡ k → (rule_in plan p i).tree ≡ (ruled k).tree
  tree_by e = tree_of (rule_of e)

  -- the nodes that it names are in the plan
  pub parts_by : {k : Word} → kind_at plan i ≡ k → Under r.walks.count ((ruled k).steps true)
  parts_by e = subst (λ (t : Rule). Under r.walks.count (t.steps true)) (rule_of e) (r.walks.good.lawful i r.node).inside

  -- ---- other nodes of the plan
  abbrev pub reads_at : (j : ℕ) → j < r.walks.count → Reading plan p j
  reads_at j l = record { walks = r.walks; node = l }

  pub reads_one : {a : ℕ} → Under r.walks.count (a ∷ []) → Reading plan p a
  reads_one {a} u = reads_at a u.0

  module _ {a b : ℕ} (u : Under r.walks.count (a ∷ b ∷ [])) where
    pub reads_two : Reading plan p a × Reading plan p b
    reads_two = (reads_at a u.0, reads_at b u.1.0)

    -- as `grammar::kinds::cons` asks for them
    pub two_some : (0 < size_word plan a) × (0 < size_word plan b)
    two_some = (some_word _ (r.walks.some a u.0), some_word _ (r.walks.some b u.1.0))

pub items_by : {plan : List Entry} {p : List ℕ} {i n : ℕ} → Visits plan p i n → {k : Word} → kind_at plan i ≡ k
    → {is : List Item} → ((kind_in (word_of_kind k)).rule (a_word plan i) (b_word plan i) p (size_in plan)).items n ≡ is → (rule_in plan p i).items n ≡ is
items_by v e q = items_of (rule_of (visited v) e) ∙ q

pub below_by : {plan : List Entry} {p : List ℕ} {i n : ℕ} → Visits plan p i n → {k : Word} → kind_at plan i ≡ k
    → Below n ((kind_in (word_of_kind k)).rule (a_word plan i) (b_word plan i) p (size_in plan)).size
below_by {n = n} v e = subst (λ (r : Rule). Below n r.size) (rule_of (visited v) e) (subst (Below n) (v.walks.good.sized _ v.node) v.below)

-- ---- nothing but a below, a nats and a shift has anything added
pub raised_none : {plan : List Entry} {i up : ℕ} {k : Word} → Raised plan i up → kind_at plan i ≡ k → bare (word_of_kind k) ≡ false → up ≡ 0
raised_none {plan} {i} {k = k} r e h =
    let no : (j : ℕ) → bare j ≡ true → kind_word plan i ≡ j → ⊥ = λ j b q. false≢true (sym h ∙ (ap bare (sym (ap word_of_kind e) ∙ q) ∙ b)) in
    ⊎_elim (λ q. q) (λ s. absurd (⊎_elim (no 0 refl) (λ t. ⊎_elim (no 1 refl) (no 3 refl) t) s)) r.is

pub raised_zero : (plan : List Entry) (i : ℕ) → Raised plan i 0
raised_zero plan i = record { is = inl refl }

pub raised_bare : {plan : List Entry} {i up : ℕ} → bare (kind_word plan i) ≡ true → Raised plan i up
raised_bare {plan} {i} h =
    let k = kind_word plan i in
    let low : (eqb k 0 || eqb k 1) ≡ true → (k ≡ 0) ⊎ (k ≡ 1) = λ q.
    ⊎_elim (λ s. inl (eqb-true k 0 s)) (λ s. inr (eqb-true k 1 s)) (or_true (eqb k 0) (eqb k 1) q) in
    record {
      is = inr
          (⊎_elim (λ q. ⊎_elim (λ s. inl s) (λ s. inr (inl s)) (low q)) (λ q. inr (inr (eqb-true k 3 q))) (or_true (eqb k 0 || eqb k 1) (eqb k 3) h));
    }
