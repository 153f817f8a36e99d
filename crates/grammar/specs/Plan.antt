-- The plan that the walks use: an entry a node, its kind, a, b and its size's word.
--   blank       what stands where no node is
--   size_word, size_in   the word of a node's size, and the size, by the plan
--   kind_word, a_word, b_word   a node's other words
--   node_in, rule_in   the node and its rule, by the plan
--   coded      a row's outcome in the code's words
--   weighed    what the check of a kind answers of a node: its row but for the spare words
--   Enters     an entry has a node's words
--   Planned    the plan holds the nodes below n, with the sizes zs
--   Ready      the table is checked, with the sizes of the plan
--   AllWeighed the first fault and its node, or the plan of the whole table
-- Assumes nothing.
use Rattle.std.specs.Prelude.{◌≡◌, Result, Ok, Err, List, ℕ, ◌≤◌, ◌<◌, length, get_or}
use Rattle.numbers.specs.Size.{Size, code_of, size_of}
use Rattle.grammar.specs.Table.{kind_of, a_of, b_of, nodes}
use Rattle.grammar.specs.Checks.{Row, fault, sized, row}
use Rattle.grammar.specs.Law.{Fit}
use Rattle.grammar.specs.KindWords.{word_of_kind}
use Rattle.grammar.specs.declared.kind.Kind.TheVariants.{Below}
use Rattle.grammar.specs.declared.entry.Entry.{Entry}
use Rattle.grammar.specs.Rule.{Rule}
use Rattle.grammar.specs.Kind.{Node, Kind, before}
use Rattle.grammar.specs.kinds.{kind_in}
use Rattle.grammar.specs.Checked.{Checked}
use Rattle.grammar.specs.Sizes.{size_at, scan, passed, faulty, sizes}
use Rattle.grammar.specs.Refusals.{Verdict}
use Rattle.grammar.specs.declared.refusal.Refusal.{Refusal}

-- what stands where no node is
abbrev pub blank : Entry
blank = record { kind = Below; a = 0; b = 0; size = 0 }

abbrev pub size_word : List Entry → ℕ → ℕ
size_word plan n = (get_or plan n blank).size

abbrev pub size_in : List Entry → ℕ → Size
size_in plan n = size_of (size_word plan n)

abbrev pub kind_word : List Entry → ℕ → ℕ
kind_word plan i = word_of_kind (get_or plan i blank).kind

abbrev pub a_word : List Entry → ℕ → ℕ
a_word plan i = (get_or plan i blank).a

abbrev pub b_word : List Entry → ℕ → ℕ
b_word plan i = (get_or plan i blank).b

-- as `node_at` and `rule_at` are by the table
abbrev pub node_in : List Entry → List ℕ → ℕ → ℕ → Node
node_in plan p count i = record { own = i; a = a_word plan i; b = b_word plan i; kind = kind_word plan; nodes = count; pool = p }

unfoldable pub rule_in : List Entry → List ℕ → ℕ → Rule
rule_in plan p i = (kind_in (kind_word plan i)).rule (a_word plan i) (b_word plan i) p (before (size_in plan) i)

unfoldable pub coded : Row → Result ℕ Refusal
coded (fault r) = Err r
coded (sized s) = Ok (code_of s)

-- z has the sizes, of which a row looks at those before it
unfoldable pub weighed : Kind → Node → (ℕ → Size) → Result ℕ Refusal
weighed k v z = let y = before z v.own in coded (row (k.checks v y) (k.rule v.a v.b v.pool y).size)

-- the entry of node n, whatever its size
pub record Enters (t : List ℕ) (n : ℕ) (e : Entry) : Type 0 where
  pub kind : word_of_kind e.kind ≡ kind_of t n
  pub a : e.a ≡ a_of t n
  pub b : e.b ≡ b_of t n

pub record Planned (t : List ℕ) (zs : List Size) (n : ℕ) (plan : List Entry) : Type 0 where
  pub long : nodes t ≤ length plan
  pub many : length zs ≡ n
  pub kind : (k : ℕ) → k < n → kind_word plan k ≡ kind_of t k
  pub a : (k : ℕ) → k < n → a_word plan k ≡ a_of t k
  pub b : (k : ℕ) → k < n → b_word plan k ≡ b_of t k
  pub blank : (k : ℕ) → n ≤ k → (kind_word plan k ≡ 0) × (a_word plan k ≡ 0) × (b_word plan k ≡ 0)
  pub size : (k : ℕ) → size_word plan k ≡ code_of (size_at zs k)
  pub fit : (k : ℕ) → k < n → Fit (size_at zs k)

-- ---- what the nodes of a table show, rising
abbrev pub WeighedBy : List ℕ → List ℕ → List Entry → Verdict → Type 0
WeighedBy t p plan (Ok u) = (scan t p (nodes t) ≡ passed (sizes t p)) × Planned t (sizes t p) (nodes t) plan
WeighedBy t p plan (Err e) = scan t p (nodes t) ≡ faulty e.refusal e.node

pub record AllWeighed (t p : List ℕ) (plan : List Entry) (v : Verdict) : Type 0 where
  pub is : WeighedBy t p plan v

-- ---- a checked table by its plan
pub record Ready (t p : List ℕ) (plan : List Entry) : Type 0 where
  pub checked : Checked t p (size_in plan)
  pub long : nodes t ≤ length plan
