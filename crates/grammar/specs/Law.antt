-- The one law of a rule: the paths through its tree are its numbers, and each path is the number's items.
--   Path       a path through a tree to a `done`: a cell for each `takes`, for each `reads` a number below its part's size
--   end_of      the number that a path ends in
--   items_of    what it passes
--   Names      every part that a tree reads is one of the nodes xs
--   Meets      a tree that does not end at once: every case has at least one cell
--   Down       a part's number is not above the rule's, or the step to it is guarded and it is below, or the rule skips
--   Lawful     of one rule; z has the sizes
--   Good       of all nodes below count
--   Holds      every check of a row is passed
--   Fit        a size that a row may give
-- Assumes nothing.
use Rattle.std.specs.Prelude.{◌≡◌, true, false, ℕ, ◌+◌, ◌^◌, ◌≤◌, ◌<◌}
use mathlib.Core.List.{List, [], ◌∷◌, Memᴰ}
use Rattle.numbers.specs.Size.{Size, finite, endless, Below}
use Rattle.grammar.specs.Checks.{Check, asks}
use Rattle.grammar.specs.Rule.{Item, own, part, Tree, done, fails, takes, reads, Rule}

abbrev pub Path : (ℕ → Size) → Tree → Type 0
Path z (done n) = Unit {0}
Path z fails = ⊥
Path z (takes f) = (c : ℕ) × Path z (f c)
Path z (reads p k f) = (m : ℕ) × Below m (z p) × Path z (f m)

abbrev pub end_of : (z : ℕ → Size) (t : Tree) → Path z t → ℕ
end_of z (done n) w = n
end_of z fails w = absurd w
end_of z (takes f) w = end_of z (f w.0) w.1
end_of z (reads p k f) w = end_of z (f w.0) w.2

abbrev pub items_of : (z : ℕ → Size) (t : Tree) → Path z t → List Item
items_of z (done n) w = []
items_of z fails w = absurd w
items_of z (takes f) w = own w.0 ∷ items_of z (f w.0) w.1
items_of z (reads p k f) w = part p w.0 k ∷ items_of z (f w.0) w.2

-- a path to n that passes the items
pub record Spells (z : ℕ → Size) (t : Tree) (is : List Item) (n : ℕ) : Type 0 where
  pub path : Path z t
  pub passes : items_of z t path ≡ is
  pub ends : end_of z t path ≡ n

abbrev pub Names : (ℕ → Size) → List ℕ → Tree → Type 0
Names z xs (done n) = Unit {0}
Names z xs fails = Unit {0}
Names z xs (takes f) = (c : ℕ) → Names z xs (f c)
Names z xs (reads p k f) = Memᴰ p xs × ((m : ℕ) → Below m (z p) → Names z xs (f m))

-- it takes or reads something before it ends
abbrev pub Meets : Tree → Type 0
Meets (done n) = ⊥
Meets fails = Unit {0}
Meets (takes f) = Unit {0}
Meets (reads p k f) = Unit {0}

abbrev pub Under : ℕ → List ℕ → Type 0
Under count [] = Unit {0}
Under count (x ∷ xs) = (x < count) × Under count xs

-- of each part of some items
abbrev pub Each : (ℕ → ℕ → Type 0) → List Item → Type 0
Each P [] = Unit {0}
Each P (own c ∷ is) = Each P is
Each P (part p m k ∷ is) = P p m × Each P is

-- of a part p at m, from a visit at n
pub data Down (r : Rule) (n p m : ℕ) : Type 0 where
  flat : Memᴰ p (r.steps false) → m ≤ n → Down r n p m
  guarded : m < n → Down r n p m
  skip : r.skips ≡ true → m ≤ n + 1 → Down r n p m

pub record Lawful (z : ℕ → Size) (count : ℕ) (r : Rule) : Type 0 where
  pub writes : (n : ℕ) → Below n r.size → Spells z r.tree (r.items n) n
  pub reads : (w : Path z r.tree) → Below (end_of z r.tree w) r.size × (r.items (end_of z r.tree w) ≡ items_of z r.tree w)
  pub names : Names z (r.steps true) r.tree
  pub meets : Meets r.tree
  pub inside : Under count (r.steps true)
  pub among : (p : ℕ) → Memᴰ p (r.steps false) → Memᴰ p (r.steps true)
  pub falls : (n : ℕ) → Below n r.size → Each (Down r n) (r.items n)

-- z has the sizes of the rules
pub record Good (z : ℕ → Size) (count : ℕ) (g : ℕ → Rule) : Type 0 where
  pub lawful : (i : ℕ) → i < count → Lawful z count (g i)
  pub sized : (i : ℕ) → i < count → z i ≡ (g i).size

-- ---- what the checks of a row leave
abbrev pub Holds : List Check → Type 0
Holds [] = Unit {0}
Holds (asks q r ∷ cs) = (q ≡ true) × Holds cs

-- what a row may give: 1 to 2^62, or endless
abbrev pub Fit : Size → Type 0
Fit (finite s) = (0 < s) × (s ≤ 2 ^ 62)
Fit endless = Unit {0}
