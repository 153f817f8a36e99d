-- What is proved of each kind, from its checks alone.
--   fit_some, fit_plus   what follows where a size fits, and that a sum does where it is tested
--   lower_both both parts are lower
--   in_row      refusals 2 to 8
--   KindLaw    its checks give refusals of a row; the sizes before the node are all that its rule looks at; its rule is lawful, and its size fits
--   Lower      its steps lead to lower nodes
--   Plain      it is no except
--   All, each_kind     of every kind of a list, and so of any kind word
--   AllBut, each_but   the same of all of a list but the one at a place
-- Assumes nothing.
use mathlib.Core.Path.{◌≡◌, refl, ap}
use mathlib.Core.Bool.{Bool, true, false, ◌&&◌}
use mathlib.Core.List.{List, [], ◌∷◌}
use Prim.Native.Nat.{ℕ, zero, suc, ◌+◌, ◌^◌, ◌<◌}
use native.Mathlib.Omega.{arith}
use lib.Dec.{leb}
use lib.ListN.{get_or}
use borrow.Author.Tests.{leb-true}
use Rattle.numbers.proofs.Tests.{and_left, and_right}
use Rattle.numbers.specs.Size.{Size, finite, endless, NotZero, plus}
use Rattle.grammar.specs.Checks.{Check, asks, fits}
use Rattle.grammar.specs.Refusals.{number_of}
use Rattle.grammar.specs.Law.{Fit, Lawful, Under, Holds}
use Rattle.grammar.specs.Rule.{Rule}
use Rattle.grammar.specs.Kind.{Node, Kind, lower, before}

pub fit_some : (s : Size) → Fit s → NotZero s
fit_some (finite s) h = h.0
fit_some endless h = tt

pub fit_plus : (s t : Size) → Fit s → fits (plus s t) ≡ true → Fit (plus s t)
unfolding plus
fit_plus (finite s) (finite t) h e = (omega arith, leb-true (s + t) (2 ^ 62) e)
fit_plus (finite s) endless h e = tt
fit_plus endless t h e = tt

-- "both lower"
pub lower_both : (v : Node) → (lower v v.a && lower v v.b) ≡ true → (lower v v.a ≡ true) × (lower v v.b ≡ true)
lower_both v h = (and_left (lower v v.a) (lower v v.b) h, and_right (lower v v.a) (lower v v.b) h)

-- what a node may lean on: the sizes before it fit, and a fix is endless
pub record Ground (v : Node) (z : ℕ → Size) : Type 0 where
  pub node : v.own < v.nodes
  pub fit : (i : ℕ) → i < v.own → Fit (z i)
  pub fixes : (i : ℕ) → i < v.nodes → v.kind i ≡ 8 → z i ≡ endless

-- its rule among the sizes z
abbrev ruled : Kind → Node → (ℕ → Size) → Rule
ruled k v z = k.rule v.a v.b v.pool z

-- whether all its refusals are those of a row, 2 to 8
abbrev pub in_row : List Check → Bool
in_row [] = true
in_row (asks q r ∷ cs) = (leb 2 (number_of r) && leb (number_of r) 8) && in_row cs

pub record KindLaw (k : Kind) : Type 0 where
  pub gives : (v : Node) (z : ℕ → Size) → in_row (k.checks v z) ≡ true
  pub sees : (v : Node) (z : ℕ → Size) → Holds (k.checks v (before z v.own)) → ruled k v (before z v.own) ≡ ruled k v z
  pub lawful : (v : Node) (z : ℕ → Size) → Ground v z → Holds (k.checks v (before z v.own)) → Lawful z v.nodes (ruled k v z)
  pub fit : (v : Node) (z : ℕ → Size) → ((i : ℕ) → i < v.own → Fit (z i)) → Holds (k.checks v (before z v.own)) → Fit (ruled k v z).size

abbrev pub Lower : Kind → Type 0
Lower k = (v : Node) (z : ℕ → Size) → Holds (k.checks v (before z v.own)) → Under v.own ((k.rule v.a v.b v.pool (before z v.own)).steps true)

abbrev pub Plain : Kind → Type 0
Plain k = (a b : ℕ) (p : List ℕ) (z : ℕ → Size) → false ≡ (k.rule a b p z).skips

abbrev pub All : (Kind → Type 0) → List Kind → Type 0
All P [] = Unit {0}
All P (k ∷ ks) = P k × All P ks

pub each_kind : (P : Kind → Type 0) (ks : List Kind) (none : Kind) → All P ks → P none → (i : ℕ) → P (get_or ks i none)
each_kind P [] none h q i = q
each_kind P (k ∷ ks) none h q zero = h.0
each_kind P (k ∷ ks) none h q (suc i) = each_kind P ks none h.1 q i

abbrev pub AllBut : ℕ → (Kind → Type 0) → List Kind → Type 0
AllBut i P [] = Unit {0}
AllBut zero P (k ∷ ks) = All P ks
AllBut (suc i) P (k ∷ ks) = P k × AllBut i P ks

pub each_but : (P : Kind → Type 0) (ks : List Kind) (none : Kind) (i : ℕ) → AllBut i P ks → P none → (j : ℕ) → (j ≡ i → ⊥) → P (get_or ks j none)
each_but P [] none i h q j f = q
each_but P (k ∷ ks) none zero h q zero f = absurd (f refl)
each_but P (k ∷ ks) none zero h q (suc j) f = each_kind P ks none h q j
each_but P (k ∷ ks) none (suc i) h q zero f = h.0
each_but P (k ∷ ks) none (suc i) h q (suc j) f = each_but P ks none i h.1 q j (λ e. f (ap suc e))
