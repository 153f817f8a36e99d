-- Every number has a case at some depth, where the graph has no cycle that is not guarded and no skip on a cycle: the rules never loop.
--   Ranked      what two ranks of the nodes must do at each step of a rule
--   every_number   a case at some depth
--   walk_some      every case has at least one cell
--   deeper_cells   a walk that ends has the same cells at every greater depth
-- Assumes nothing.
use mathlib.Core.Path.{◌≡◌, refl, subst, ap, ◌∙◌}
use mathlib.Core.Bool.{true, false}
use mathlib.Core.Logic.{⊎_elim}
use mathlib.Core.List.{List, [], ◌∷◌, ◌++◌, map, Memᴰ}
use Prim.Native.Nat.{ℕ, zero, suc, ◌+◌, ◌≤◌, ◌<◌}
use native.Mathlib.Nat.{not-suc-le-zero, le_of_suc-le-suc}
use native.Mathlib.Omega.{arith}
use lib.ListN.{length, length-append}
use Rattle.numbers.specs.Size.{Size, Below}
use Rattle.lists.proofs.Order.{le_or_lt}
use Rattle.grammar.specs.Rule.{Item, own, part, Tree, done, fails, takes, reads, Rule}
use Rattle.walk.specs.Walk.{Event, cell, deep, shown, walk}
use Rattle.grammar.specs.Law.{Path, Meets, items_of, Names, Each, Down, flat, guarded, skip, Lawful, Good}
use Rattle.grammar.proofs.Stepping.{under_mem}
use Rattle.walk.proofs.Descent.{Falls, first, number, second, descend}

-- ---- events that are all cells
abbrev pub Whole : List Event → Type 0
Whole [] = Unit {0}
Whole (cell c ∷ es) = Whole es
Whole (deep ∷ es) = ⊥

pub whole_cells : (es : List Event) → Whole es → (cs : List ℕ) × (es ≡ map cell cs)
whole_cells [] w = ([], refl)
whole_cells (cell c ∷ es) w = let r = whole_cells es w in (c ∷ r.0, ap (λ (l : List Event). cell c ∷ l) r.1)
whole_cells (deep ∷ es) w = absurd w

whole_both : (xs ys : List Event) → Whole xs → Whole ys → Whole (xs ++ ys)
whole_both [] ys w v = v
whole_both (cell c ∷ xs) ys w v = whole_both xs ys w v
whole_both (deep ∷ xs) ys w v = absurd w

whole_left : (xs ys : List Event) → Whole (xs ++ ys) → Whole xs
whole_left [] ys w = tt
whole_left (cell c ∷ xs) ys w = whole_left xs ys w
whole_left (deep ∷ xs) ys w = w

whole_right : (xs ys : List Event) → Whole (xs ++ ys) → Whole ys
whole_right [] ys w = w
whole_right (cell c ∷ xs) ys w = whole_right xs ys w
whole_right (deep ∷ xs) ys w = absurd w

-- ---- of each part
pub each_two : {P Q S : ℕ → ℕ → Type 0} → ((p m : ℕ) → P p m → Q p m → S p m) → (is : List Item) → Each P is → Each Q is → Each S is
each_two f [] h k = tt
each_two f (own c ∷ is) h k = each_two f is h k
each_two f (part p m j ∷ is) h k = (f p m h.0 k.0, each_two f is h.1 k.1)

path_parts : (z : ℕ → Size) (xs : List ℕ) (t : Tree) → Names z xs t → (w : Path z t) → Each (λ p m. Memᴰ p xs × Below m (z p)) (items_of z t w)
path_parts z xs (done n) o w = tt
path_parts z xs fails o w = absurd w
path_parts z xs (takes f) o w = path_parts z xs (f w.0) (o w.0) w.1
path_parts z xs (reads p k f) o w = ((o.0, w.1), path_parts z xs (f w.0) (o.1 w.0 w.1) w.2)

-- the parts of a visit: named, and at numbers below their sizes
pub parts_of : (z : ℕ → Size) (count : ℕ) (r : Rule) → Lawful z count r → (n : ℕ) → Below n r.size → Each
    (λ p m. Memᴰ p (r.steps true) × Below m (z p)) (r.items n)
parts_of z count r l n h = let s = l.writes n h in subst (Each _) s.passes (path_parts z (r.steps true) r.tree l.names s.path)

-- ---- a visit meets something
shown_some : (go : ℕ → ℕ → ℕ → List Event) (z : ℕ → Size) (t : Tree) → Meets t → (w : Path z t) (up : ℕ)
    → Each (λ p m. (u : ℕ) → 0 < length (go u p m)) (items_of z t w) → 0 < length (shown go up (items_of z t w))
unfolding shown
shown_some go z (done n) s w up h = absurd s
shown_some go z fails s w up h = absurd w
shown_some go z (takes f) s w up h = omega arith
shown_some go z (reads p k f) s w up h = rw length-append (omega (arith, h.0 (up + k)))

pub walk_some : (z : ℕ → Size) (count : ℕ) (g : ℕ → Rule) → Good z count g → (d i n : ℕ) → i < count → Below n (z i) → (up : ℕ) → 0 < length (walk g d up i n)
unfolding walk
walk_some z count g good zero i n l h up = omega arith
walk_some z count g good (suc d) i n l h up =
    let r = good.lawful i l in
    let s = r.writes n (subst (Below n) (good.sized i l) h) in
    let parts = path_parts z ((g i).steps true) (g i).tree r.names s.path in
    let below = each_two (λ p m a b. walk_some z count g good d p m (under_mem count ((g i).steps true) r.inside p a.0) a.1)
    (items_of z (g i).tree s.path) parts parts in
    rw (← s.passes) (shown_some (walk g d) z (g i).tree r.meets s.path up below)

-- ---- depth enough
module _ (g : ℕ → Rule) where
  shown_same : (go go' : ℕ → ℕ → ℕ → List Event) → ((up p m : ℕ) → Whole (go up p m) → go' up p m ≡ go up p m) → (up : ℕ) (is : List Item)
      → Whole (shown go up is) → shown go' up is ≡ shown go up is
  unfolding shown
  shown_same go go' f up [] w = refl
  shown_same go go' f up (own c ∷ is) w = ap (λ (es : List Event). cell (c + up) ∷ es) (shown_same go go' f 0 is w)
  shown_same go go' f up (part p m k ∷ is) w =
      rw (
        f (up + k) p m (whole_left (go (up + k) p m) (shown go 0 is) w),
        shown_same go go' f 0 is (whole_right (go (up + k) p m) (shown go 0 is) w),
      )

  -- a walk that ends shows the same at every depth from there on
  pub deeper_same : (d d' : ℕ) → d ≤ d' → (up i n : ℕ) → Whole (walk g d up i n) → walk g d' up i n ≡ walk g d up i n
  unfolding walk
  deeper_same zero d' l up i n w = absurd w
  deeper_same (suc d) zero l up i n w = absurd (not-suc-le-zero l)
  deeper_same (suc d) (suc d') l up i n w = shown_same (walk g d) (walk g d') (deeper_same d d' (le_of_suc-le-suc l)) up ((g i).items n) w

  pub deeper : (d d' : ℕ) → d ≤ d' → (up i n : ℕ) → Whole (walk g d up i n) → Whole (walk g d' up i n)
  deeper d d' l up i n w = rw (deeper_same d d' l up i n w) w

  pub cells_whole : (cs : List ℕ) → Whole (map cell cs)
  cells_whole [] = tt
  cells_whole (c ∷ cs) = cells_whole cs

  -- the cells of a walk that ends, at a greater depth
  pub deeper_cells : (d d' : ℕ) → d ≤ d' → (i n : ℕ) (cs : List ℕ) → walk g d 0 i n ≡ map cell cs → walk g d' 0 i n ≡ map cell cs
  deeper_cells d d' l i n cs e = deeper_same d d' l 0 i n (rw e (cells_whole cs)) ∙ e

  pub record Ended (i n : ℕ) : Type 0 where
    pub depth : ℕ
    pub whole : (up : ℕ) → Whole (walk g depth up i n)

  -- the items of a visit, at the greatest of their depths
  shown_ended : (is : List Item) → Each Ended is → (d : ℕ) × ((up : ℕ) → Whole (shown (walk g d) up is))
  unfolding shown
  shown_ended [] e = (0, λ up. tt)
  shown_ended (own c ∷ is) e = let r = shown_ended is e in (r.0, λ up. r.1 0)
  shown_ended (part p m k ∷ is) e =
      let a = e.0 in
      let r = shown_ended is e.1 in
      ⊎_elim (λ l. (
        r.0,
        λ up. whole_both (walk g r.0 (up + k) p m) (shown (walk g r.0) 0 is) (deeper a.depth r.0 l (up + k) p m
            (a.whole (up + k))) (r.1 0),
      ))
      (λ l. (
        a.depth,
        λ up. whole_both (walk g a.depth (up + k) p m) (shown (walk g a.depth) 0 is) (a.whole (up + k))
            (rw (shown_same (walk g r.0) (walk g a.depth) (deeper_same r.0 a.depth (omega arith)) 0 is (r.1 0)) (r.1 0)),
      ))
      (le_or_lt a.depth r.0)

  ended_by : (i n : ℕ) → Each Ended ((g i).items n) → Ended i n
  unfolding walk
  ended_by i n e = let s = shown_ended ((g i).items n) e in record { depth = suc s.0; whole = s.1 }

-- ---- the descent
pub record Ranked (R U : ℕ → ℕ) (i : ℕ) (r : Rule) : Type 0 where
  pub level : (j : ℕ) → Memᴰ j (r.steps true) → R j ≤ R i
  pub drop : r.skips ≡ true → (j : ℕ) → Memᴰ j (r.steps true) → R j < R i
  pub down : (j : ℕ) → Memᴰ j (r.steps false) → U j < U i

falls : {R U : ℕ → ℕ} {i : ℕ} (r : Rule) → Ranked R U i r → (n p m : ℕ) → Down r n p m → Memᴰ p (r.steps true) → Falls R U i n p m
falls r k n p m (flat s l) mem = second (k.level p mem) l (k.down p s)
falls r k n p m (guarded l) mem = number (k.level p mem) l
falls r k n p m (skip e l) mem = first (k.drop e p mem)

module _ (z : ℕ → Size) (count : ℕ) (g : ℕ → Rule) (good : Good z count g) (R U : ℕ → ℕ) (ranked : (i : ℕ) → i < count → Ranked R U i (g i)) where
  ends : (i n : ℕ) → i < count → Below n (z i) → Ended g i n
  ends =
      descend R U (λ i n. i < count → Below n (z i) → Ended g i n) λ i n below l h.
      let r = good.lawful i l in
      let h' = subst (Below n) (good.sized i l) h in
      ended_by g i n
      (each_two (λ p m q f. below p m (falls (g i) (ranked i l) n p m f q.0) (under_mem count ((g i).steps true) r.inside p q.0) q.1)
      ((g i).items n) (parts_of z count (g i) r n h') (r.falls n h'))

  pub every_number : (i : ℕ) → i < count → (n : ℕ) → Below n (z i) → (d : ℕ) × (cs : List ℕ) × (walk g d 0 i n ≡ map cell cs)
  every_number i l n h = let e = ends i n l h in let c = whole_cells (walk g e.depth 0 i n) (e.whole 0) in (e.depth, c.0, c.1)
