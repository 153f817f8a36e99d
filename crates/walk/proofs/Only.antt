-- Read, then written: what the reading walk accepts are the cells of its number, and nothing else.
--   only          a number that is read is below the node's size, and its cells are those that were read
--   prefix_free   no number's cells begin another's
-- Assumes nothing.
use mathlib.Core.Path.{◌≡◌, refl, sym, subst, ap, ◌∙◌}
use mathlib.Core.Bool.{Bool, true, false}
use mathlib.Core.List.{List, [], ◌∷◌, ◌++◌, map, append_assoc, append-nil}
use Prim.Native.Nat.{ℕ, zero, suc, ◌+◌, ◌-◌, ◌<◌}
use native.Mathlib.Omega.{arith}
use lib.Dec.{leb}
use lib.ListN.{length, length-append}
use borrow.Author.Tests.{leb-true}
use Rattle.numbers.specs.Size.{Size, Below}
use Rattle.grammar.specs.Rule.{Tree, done, fails, takes, reads, Rule}
use Rattle.walk.specs.Walk.{Event, cell, shown, walk}
use Rattle.walk.specs.Run.{Read, read, wrong, then, fit, cell_of, follow, run}
use Rattle.grammar.specs.Law.{Path, end_of, items_of, Names, Under, Good}
use Rattle.grammar.proofs.Stepping.{under_mem}
use Rattle.walk.proofs.Back.{back}

-- the cells of es stand before rest, and the room is for them and q' more
pub record Spelt (es : List Event) (q : ℕ) (cs : List ℕ) (q' : ℕ) (rest : List ℕ) : Type 0 where
  pub ws : List ℕ
  pub shows : es ≡ map cell ws
  pub stands : cs ≡ ws ++ rest
  pub room : q ≡ length ws + q'

map_both : (ws vs : List ℕ) → map cell ws ++ map cell vs ≡ map cell (ws ++ vs)
map_both [] vs = refl
map_both (c ∷ ws) vs = ap (λ (es : List Event). cell c ∷ es) (map_both ws vs)

spelt_none : (q : ℕ) (cs : List ℕ) → Spelt [] q cs q cs
spelt_none q cs = record { ws = []; shows = refl; stands = refl; room = omega arith }

spelt_cell : (c off : ℕ) {es : List Event} {q q' : ℕ} {cs rest : List ℕ} → leb off c ≡ true → Spelt es q cs q' rest
    → Spelt (cell (c - off + off) ∷ es) (suc q) (c ∷ cs) q' rest
spelt_cell c off {es} t s =
    let l = leb-true off c t in
    let e : c - off + off ≡ c = omega arith in
    record {
      ws = c ∷ s.ws;
      shows = rw e (ap (λ (l : List Event). cell c ∷ l) s.shows);
      stands = ap (λ (l : List ℕ). c ∷ l) s.stands;
      room = omega
          (arith, s.room);
    }

spelt_both : {xs ys : List Event} {q q' q'' : ℕ} {cs ds rest : List ℕ} → Spelt xs q cs q' ds → Spelt ys q' ds q'' rest → Spelt (xs ++ ys) q cs q'' rest
spelt_both {xs} {ys} s t = record {
  ws = s.ws ++ t.ws;
  shows = rw (s.shows, t.shows) (map_both s.ws t.ws);
  stands = rw append_assoc (s.stands ∙ ap (λ (l : List ℕ). s.ws ++ l) t.stands);
  room = omega (arith, s.room, t.room, length-append s.ws t.ws);
}

-- what is read of a node of size s, whose number m has the events es m
abbrev Right : Size → (ℕ → List Event) → ℕ → List ℕ → Read → Type 0
Right s es q cs (read m q' rest) = Below m s × Spelt (es m) q cs q' rest
Right s es q cs (wrong r) = Unit {0}

module _ (z : ℕ → Size) (count : ℕ) (g : ℕ → Rule) where
  abbrev Rights : ℕ → Type 0
  Rights d = (off i : ℕ) → i < count → (q : ℕ) (cs : List ℕ) → Right (z i) (walk g d off i) q cs (run g d off i q cs)

  module _ (d : ℕ) (ih : Rights d) where
    -- what is read by a tree is the end of a path through it
    abbrev Along : ℕ → Tree → ℕ → List ℕ → Read → Type 0
    Along off t q cs (read m q' rest) = (w : Path z t) × (end_of z t w ≡ m) × Spelt (shown (walk g d) off (items_of z t w)) q cs q' rest
    Along off t q cs (wrong r) = Unit {0}

    after_cell : (off : ℕ) (f : ℕ → Tree) (c q : ℕ) (cs : List ℕ) (r : Read) → leb off c ≡ true → Along 0 (f (c - off)) q cs r
        → Along off (takes f) (suc q) (c ∷ cs) r
    unfolding shown
    after_cell off f c q cs (read m q' rest) t h = ((c - off, h.0), h.1, spelt_cell c off t h.2)
    after_cell off f c q cs (wrong r) t h = tt

    after_part : (off p k : ℕ) (f : ℕ → Tree) (m : ℕ) {q q' : ℕ} {cs ds : List ℕ} (r : Read) → Below m (z p) → Spelt (walk g d (off + k) p m) q cs q' ds
        → Along 0 (f m) q' ds r → Along off (reads p k f) q cs r
    unfolding shown
    after_part off p k f m (read n q'' rest) lt s h = ((m, lt, h.0), h.1, spelt_both s h.2)
    after_part off p k f m (wrong r) lt s h = tt

    tree_only : (t : Tree) (xs : List ℕ) → Under count xs → Names z xs t → (off q : ℕ) (cs : List ℕ) → Along off t q cs (follow (run g d) off t q cs)
    unfolding shown follow cell_of
    tree_only (done n) xs u o off q cs = (tt, refl, spelt_none q cs)
    tree_only fails xs u o off q cs = tt
    tree_only (takes f) xs u o off zero cs = tt
    tree_only (takes f) xs u o off (suc q) [] = tt
    tree_only (takes f) xs u o off (suc q) (c ∷ cs) = by (leb off c) refl (tree_only (f (c - off)) xs u (o (c - off)) 0 q cs)
      where
        by : (b : Bool) → leb off c ≡ b → Along 0 (f (c - off)) q cs (follow (run g d) 0 (f (c - off)) q cs)
            → Along off (takes f) (suc q) (c ∷ cs) (fit b (λ x. follow (run g d) 0 (f x)) (c - off) q cs)
        by true e h = after_cell off f c q cs (follow (run g d) 0 (f (c - off)) q cs) e h
        by false e h = tt
    tree_only (reads p k f) xs u o off q cs =
        by (run g d (off + k) p q cs) (ih (off + k) p (under_mem count xs u p o.0) q cs) (λ m lt. tree_only (f m) xs u (o.1 m lt) 0)
      where
        by : (r : Read) → Right (z p) (walk g d (off + k) p) q cs r
            → ((m : ℕ) → Below m (z p) → (q' : ℕ) (ds : List ℕ) → Along 0 (f m) q' ds (follow (run g d) 0 (f m) q' ds))
            → Along off (reads p k f) q cs (then r (λ m. follow (run g d) 0 (f m)))
        by (read m q' ds) h rest = after_part off p k f m (follow (run g d) 0 (f m) q' ds) h.0 h.1 (rest m h.0 q' ds)
        by (wrong r) h rest = tt

  module _ (good : Good z count g) where
    -- a path's end has the path's items
    as_right : (d : ℕ) (e : Rights d) (off i : ℕ) → i < count → (q : ℕ) (cs : List ℕ) (r : Read) → Along d e off (g i).tree q cs r
        → Right (z i) (λ m. shown (walk g d) off ((g i).items m)) q cs r
    as_right d e off i l q cs (read m q' rest) a =
        let r = good.lawful i l in (
          subst (Below m) (sym (good.sized i l)) (subst (λ x. Below x (g i).size) a.1 (r.reads a.0).0),
          subst (λ es. Spelt es q cs q' rest) (ap (shown (walk g d) off) (sym (r.reads a.0).1 ∙ ap (g i).items a.1)) a.2,
        )
    as_right d e off i l q cs (wrong r) a = tt

    right : (d : ℕ) → Rights d
    unfolding walk run
    right zero off i l q cs = tt
    right (suc d) off i l q cs =
        as_right d (right d) off i l q cs (follow (run g d) off (g i).tree q cs) (tree_only d (right d) (g i).tree ((g i).steps true)
        (good.lawful i l).inside (good.lawful i l).names off q cs)

    pub only : (d off i : ℕ) → i < count → (q : ℕ) (cs : List ℕ) {m q' : ℕ} {rest : List ℕ} → run g d off i q cs ≡ read m q' rest
        → Below m (z i) × Spelt (walk g d off i m) q cs q' rest
    only d off i l q cs e = subst (Right (z i) (walk g d off i) q cs) e (right d off i l q cs)

    pub prefix_free : (d i m n : ℕ) → i < count → Below m (z i) → Below n (z i)
        → (ws vs more : List ℕ) → walk g d 0 i m ≡ map cell ws → walk g d 0 i n ≡ map cell vs → vs ≡ ws ++ more → (more ≡ []) × (m ≡ n)
    prefix_free d i m n l h k ws vs more e f u =
        let whole : vs ++ [] ≡ ws ++ more = append-nil vs ∙ u in
        let long : length vs + 0 ≡ length ws + length more = rw (u, length-append) (omega arith) in
        let first = back z count g good d 0 i m l h ws e (length more) more in
        let second = back z count g good d 0 i n l k vs f 0 [] in
        (cc, cc)
