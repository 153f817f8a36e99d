-- The words of a run, as the library's methods go through them.
--   position_placed   what its `position` says
--   Among       x is among the words before i, as `seen` says, or from there on
--   Differing   the words up to i differ from all that come after them
-- Assumes nothing.
use mathlib.Core.Path.{◌≡◌, refl, sym, ◌∙◌}
use mathlib.Core.Bool.{Bool, cond, true, false, not, ◌&&◌, ◌||◌, or-false}
use mathlib.Core.List.{List, [], ◌∷◌}
use Prim.Native.Nat.{ℕ, suc, ◌+◌, ◌-◌, ◌≤◌, ◌<◌}
use native.Mathlib.Numerals.{add-one}
use native.Mathlib.Omega.{arith}
use Rattle.std.proofs.lemmas.Bool.Decides.{nat_tests}
use lib.Dec.{eqb}
use lib.ListN.{length, get_or, take, drop, length-drop, drop_of_length-le}
use lib.Seq.{drop-cons, take_all}
use Rattle.std.specs.Prelude.{Some, None, position}
use Rattle.std.specs.List.{position_from}
use Rattle.std.proofs.lemmas.Iterator.Adapters.{position_from-zero}
use Rattle.lists.specs.Lists.{has}
use Rattle.numbers.specs.Pick.{pick}
use Rattle.grammar.specs.Checks.{different}
use Rattle.grammar.specs.Placed.{placed}
use Rattle.grammar.specs.kinds.Pool.{place_of}

eqb_swap : (m n : ℕ) → eqb m n ≡ eqb n m
eqb_swap m n = grind (arith, nat_tests)

-- ---- the library's methods
position_at : (c k : ℕ) (ws : List ℕ) → position_from (λ w. eqb w c) k ws ≡ pick (has c ws) (Some (k + place_of c ws)) None
unfolding has place_of
position_at c k [] = refl
position_at c k (w ∷ ws) = rw (position_at c (k + 1) ws, eqb_swap w c) (by (eqb c w) (has c ws))
  where
    by : (t h : Bool) → cond t (Some k) (pick h (Some (k + 1 + place_of c ws)) None) ≡ pick (t || h) (Some (k + pick t 0 (suc (place_of c ws)))) None
    by true h = let e : k + 0 ≡ k = omega arith in rw e
    by false true = let e : k + 1 + place_of c ws ≡ k + suc (place_of c ws) = omega arith in rw e
    by false false = refl

pub position_placed : (c : ℕ) (ws : List ℕ) → position (λ w. eqb w c) ws ≡ placed c ws
position_placed c ws =
    let e : 0 + place_of c ws ≡ place_of c ws = omega arith in
    position_from-zero (λ w. eqb w c) ws ∙ rw e at (position_at c 0 ws)

-- ---- x is among the words before i, as `seen` says, or from there on
pub record Among (ws : List ℕ) (x : ℕ) (seen : Bool) (i : ℕ) : Type 0 where
  pub is : has x ws ≡ (seen || has x (drop i ws))

pub among_none : {ws : List ℕ} {x : ℕ} → Among ws x false 0
among_none = record { is = refl }

module _ {ws : List ℕ} {x : ℕ} {seen : Bool} {i : ℕ} (a : Among ws x seen i) where
  pub among_more : i < length ws → Among ws x (seen || eqb (get_or ws i 0) x) (i + 1)
  unfolding has
  among_more l = record { is = a.is ∙ rw (drop-cons ws i 0 l, add-one, eqb_swap (get_or ws i 0) x) (sym (assoc seen (eqb x (get_or ws i 0)) _)) }
    where
      assoc : (a b c : Bool) → ((a || b) || c) ≡ (a || (b || c))
      assoc true b c = refl
      assoc false b c = refl

  pub among_end : length ws ≤ i → seen ≡ has x ws
  unfolding has
  among_end l = sym (a.is ∙ rw (drop_of_length-le ws {i = i} l, or-false seen))

-- ---- the words up to i differ from all that come after them
pub record Differing (ws : List ℕ) (i : ℕ) : Type 0 where
  pub le : i ≤ length ws
  pub is : different ws ≡ different (drop i ws)

pub differ_none : {ws : List ℕ} → Differing ws 0
differ_none = record { le = omega arith; is = refl }

module _ {ws : List ℕ} {i : ℕ} (s : Differing ws i) where
  module _ (l : i < length ws) {q : Bool} (e : q ≡ has (get_or ws i 0) (take (length ws - (i + 1)) (drop (i + 1) ws))) where
    again : q ≡ has (get_or ws i 0) (drop (i + 1) ws)
    again = e ∙ rw (take_all (length ws - (i + 1)) (drop (i + 1) ws) (omega (arith, length-drop (i + 1) ws)))

    step : different (drop i ws) ≡ (not q && different (drop (i + 1) ws))
    unfolding different
    step = rw (drop-cons ws i 0 l, again, add-one)

    pub differ_hit : q ≡ true → false ≡ different ws
    differ_hit h = rw (s.is, step, h)

    pub differ_more : q ≡ false → Differing ws (i + 1)
    differ_more h = record { le = omega arith; is = s.is ∙ rw (step, h) }

  pub differ_end : length ws ≤ i → true ≡ different ws
  unfolding different
  differ_end l = rw (s.is, drop_of_length-le ws {i = i} l)

pub ruleset amongs = (among_none, among_more, among_end)

pub ruleset differs = (differ_none, differ_hit, differ_more, differ_end)
