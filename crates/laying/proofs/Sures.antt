-- Widths of nodes: what each bounds, by what its visits show, and a list of them that is filled node by node.
--   few_..      cells put together
--   held_few    what items show, where their parts are bounded
--   width_..    the width of a node whose visits show a cell, a part, a tag and a part, or two parts
--   part_most   a part's width is no more than a case may have
--   widths_..   a list of widths that say nothing; one width more
--   sure_by     a width that fits the room
-- Assumes nothing.
use mathlib.Core.Path.{◌≡◌, refl, sym, ap, ◌∙◌}
use mathlib.Core.Bool.{Bool, true, false}
use mathlib.Core.Logic.{◌⊎◌, inl, inr}
use mathlib.Core.List.{List, [], ◌∷◌, ◌++◌, map}
use Prim.Native.Nat.{ℕ, zero, suc, ◌+◌, ◌-◌, ◌≤◌, ◌<◌, max}
use native.Mathlib.Nat.{not-suc-le-zero, le_of_suc-le-suc}
use native.Mathlib.Omega.{arith}
use lib.Dec.{leb}
use lib.ListN.{length, set, replicate, length-set}
use lib.Seq.{get_or-set_same, get_or-set_other}
use borrow.Author.Tests.{leb-true}
use Rattle.std.specs.Prelude.{Option, Some, None}
use Rattle.numbers.specs.Pick.{pick}
use Rattle.lists.proofs.Order.{same?}
use Rattle.numbers.specs.declared.or.Part.{Part}
use Rattle.numbers.specs.declared.or.Part.TheVariants.{First, Second}
use Rattle.numbers.specs.declared.cons.Pair.{Pair}
use Rattle.grammar.specs.declared.entry.Entry.{Entry}
use Rattle.grammar.specs.Rule.{Item, own, part}
use Rattle.grammar.specs.Law.{Each}
use Rattle.grammar.specs.kinds.Or.{tagged}
use Rattle.grammar.specs.kinds.Cons.{both}
use Rattle.grammar.specs.Plan.{rule_in}
use Rattle.walk.specs.Walk.{Event, cell, shown, walk, depth}
use Rattle.walk.specs.Room.{most}
use Rattle.walk.specs.Plan.{Visits}
use Rattle.laying.specs.Sure.{Few, Sure, Bounded, Width, width_at, Widths}
use Rattle.walk.proofs.Visit.{walk_by, Next, next_by}

-- ---- cells put together
few_more : {es : List Event} {u w : ℕ} → u ≤ w → Few es u → Few es w
few_more l f = record { case = f.case; shows = f.shows; few = omega (arith, f.few) }

few_cell : (c : ℕ) {es : List Event} {w : ℕ} → Few es w → Few (cell c ∷ es) (1 + w)
few_cell c f = record { case = c ∷ f.case; shows = ap (λ (l : List Event). cell c ∷ l) f.shows; few = omega (arith, f.few) }

few_none : Few [] 0
few_none = record { case = []; shows = refl; few = omega arith }

few_both : {xs ys : List Event} {u v : ℕ} → Few xs u → Few ys v → Few (xs ++ ys) (u + v)
few_both {xs} {ys} {u} {v} f g = rw f.shows (by f.case u f.few)
  where
    by : (cs : List ℕ) (u : ℕ) → length cs ≤ u → Few (map cell cs ++ ys) (u + v)
    by [] u l = few_more (omega arith) g
    by (c ∷ cs) zero l = absurd (not-suc-le-zero l)
    by (c ∷ cs) (suc u) l = few_more (omega arith) (few_cell c (by cs u (le_of_suc-le-suc l)))

-- ---- items of at most w cells, where their parts are bounded
abbrev Held : List Entry → ℕ → ℕ → List Item → Type 0
Held plan h w [] = Unit {0}
Held plan h w (own c ∷ is) = (v : ℕ) × (1 + v ≤ w) × Held plan h v is
Held plan h w (part a m k ∷ is) = (u v : ℕ) × (u + v ≤ w) × Bounded plan a u h × Held plan h v is

held_few : (plan : List Entry) (p : List ℕ) (n h d : ℕ) → h ≤ d → (w up : ℕ) (is : List Item) → Held plan h w is → Each (Next plan p n) is
    → Few (shown (walk (rule_in plan p) d) up is) w
unfolding shown
held_few plan p n h d l w up [] k v = few_more (omega arith) few_none
held_few plan p n h d l w up (own c ∷ is) k v = few_more k.1 (few_cell (c + up) (held_few plan p n h d l k.0 0 is k.2 v))
held_few plan p n h d l w up (part a m j ∷ is) k v =
    few_more k.2 (few_both (k.3.fits p m (up + j) d v.0.visits l) (held_few plan p n h d l k.1 0 is k.4 v.1))

-- a part alone
held_one : {plan : List Entry} {a w h : ℕ} → Bounded plan a w h → (u v : ℕ) × (u + v ≤ w) × Bounded plan a u h × Unit {0}
held_one {w = w} b = (w, 0, omega arith, b, tt)

-- a width of node i, one higher than its parts'
module _ {plan : List Entry} {i : ℕ} (h : ℕ) where
  width_by : {w : Option ℕ}
      → ((k : ℕ) → w ≡ Some k → (k ≤ most) × ((p : List ℕ) (n : ℕ) → Visits plan p i n → (is : List Item) × ((rule_in plan p i).items n ≡ is) × Held plan h k is))
      → Width plan i w (h + 1)
  width_by f = record {
    bounds = λ k e.
        let g = f k e in (
          g.0,
          record {
            fits = λ p n up d v o.
                let s = g.1 p n v in
                rw (walk_by (rule_in plan p) i n up {d = d} (λ z. omega arith) s.1)
                (held_few plan p n h (d - 1) (omega arith) k up s.0 s.2 (next_by v s.1));
          },
        );
  }

module _ {plan : List Entry} {i h : ℕ} {w : Option ℕ} where
  width_higher : {h' : ℕ} → h ≤ h' → Width plan i w h → Width plan i w h'
  width_higher l b = record { bounds = λ k e. let g = b.bounds k e in (g.0, record { fits = λ p n up d v o. g.1.fits p n up d v (omega arith) }) }

  width_none : None ≡ w → Width plan i w h
  width_none e = record { bounds = λ k q. let z : ◌≡◌ {A = ℕ} 0 1 = cc in absurd (omega arith) }

-- what is known is no more than a case may have
known_is : (m : ℕ) {k : ℕ} → pick (leb m most) (Some m) None ≡ Some k → (k ≡ m) × (m ≤ most)
known_is m {k} e = by (leb m most) refl e
  where
    by : (b : Bool) → leb m most ≡ b → pick b (Some m) None ≡ Some k → (k ≡ m) × (m ≤ most)
    by true t q = (cc, leb-true m most t)
    by false t q = let z : ◌≡◌ {A = ℕ} 0 1 = cc in absurd (omega arith)

-- ---- shape by shape, whatever the kind: what every visit of the node shows; a part's width is as its list has it
of_part : {plan : List Entry} {widths : List (Option ℕ)} {h a x : ℕ} → Widths plan widths h → Some x ≡ width_at widths a → (x ≤ most) × Bounded plan a x h
of_part {a = a} {x} ws e = (ws.at a).bounds x (sym e)

pub part_most : {plan : List Entry} {widths : List (Option ℕ)} {h : ℕ} (a : ℕ) {x : ℕ} → Widths plan widths h → Some x ≡ width_at widths a → x ≤ most
part_most a ws e = (of_part {a = a} ws e).0

-- of every visit of node i
abbrev Shows : List Entry → ℕ → (List Item → Type 0) → Type 0
Shows plan i P = (p : List ℕ) (n : ℕ) → Visits plan p i n → P ((rule_in plan p i).items n)

module _ {plan : List Entry} {widths : List (Option ℕ)} {h : ℕ} (ws : Widths plan widths h) {i : ℕ} where
  pub width_cell : Shows plan i (λ is. (c : ℕ) × (is ≡ own c ∷ [])) → Width plan i (Some 1) (h + 1)
  width_cell f = width_by h (λ k e. let q : k ≡ 1 = cc in (omega arith, λ p n v. (_, (f p n v).1, (0, omega arith, tt))))

  pub width_part : {a : ℕ} {x : Option ℕ} → x ≡ width_at widths a → Shows plan i (λ is. (m k : ℕ) × (is ≡ part a m k ∷ [])) → Width plan i x (h + 1)
  width_part {a} {x} e f =
      width_by h (λ k q. let b = of_part {a = a} ws (sym q ∙ e) in (b.0, λ p n v. (_, (f p n v).2, held_one b.1)))

  module _ {a b x y : ℕ} (ex : Some x ≡ width_at widths a) (ey : Some y ≡ width_at widths b) where
    pub width_tag : Shows plan i (λ is. (q : Part) × (is ≡ tagged a b q)) → {m : ℕ} → m ≡ max x y → {w : Option ℕ}
        → w ≡ pick (leb (1 + m) most) (Some (1 + m)) None
        → Width plan i w (h + 1)
    width_tag f {m} em {w} ew =
        width_by h (λ k e. let g = known_is (1 + m) (sym ew ∙ e) in (omega (arith, g.0, g.1), λ p n v. by k (omega (arith, g.0)) (f p n v).0 (f p n v).1))
      where
        by : (k : ℕ) → k ≡ 1 + m → {is : List Item} (q : Part) → is ≡ tagged a b q → (js : List Item) × (is ≡ js) × Held plan h k js
        by k l (First z) e = (_, e, (x, omega arith, held_one (of_part ws ex).1))
        by k l (Second z) e = (_, e, (y, omega arith, held_one (of_part ws ey).1))

    pub width_two : Shows plan i (λ is. (q : Pair) × (is ≡ both a b q)) → {w : Option ℕ} → w ≡ pick (leb (x + y) most) (Some (x + y)) None
        → Width plan i w (h + 1)
    width_two f {w} ew =
        width_by h
        (λ k e.
        let g = known_is (x + y) (sym ew ∙ e) in
        (omega (arith, g.0, g.1), λ p n v. (_, (f p n v).1, (x, y, omega (arith, g.0), (of_part ws ex).1, held_one (of_part ws ey).1))))

-- ---- the list of widths
pub widths_none : (plan : List Entry) → Widths plan (replicate 32 None) 0
widths_none plan = record { long = refl; at = λ j. width_none (sym (blank 32 j)) }
  where
    blank : (m j : ℕ) → width_at (replicate m None) j ≡ None
    blank zero j = refl
    blank (suc m) zero = refl
    blank (suc m) (suc j) = blank m j

pub widths_more : {plan : List Entry} {widths : List (Option ℕ)} {k : ℕ} {w : Option ℕ} → Widths plan widths k → k < 32 → Width plan k w (k + 1)
    → Widths plan (set widths k w) (k + 1)
widths_more {plan} {widths} {k} {w} ws l x = record { long = length-set widths k w ∙ ws.long; at = λ j. by j (same? j k) }
  where
    by : (j : ℕ) → (j ≡ k) ⊎ (j ≡ k → ⊥) → Width plan j (width_at (set widths k w) j) (k + 1)
    by j (inl e) = rw (e, get_or-set_same widths k w None (omega (arith, ws.long))) x
    by j (inr f) = rw (get_or-set_other widths k j w None f) (width_higher (omega arith) (ws.at j))

-- a width that is known and fits the room, at a height that fits the depth
pub sure_by : {plan : List Entry} {widths : List (Option ℕ)} {h : ℕ} → Widths plan widths h → h ≤ depth → {i w room : ℕ} → Some w ≡ width_at widths i
    → w ≤ room → Sure plan i room
sure_by {plan} {widths} {h} ws l {i} {w} {room} e r =
    record { fits = λ p n v. few_more r (((ws.at i).bounds w (sym e)).1.fits p n 0 depth v l) }
