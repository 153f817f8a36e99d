-- Written, then read: the reading walk gives back the number that the writing walk had, and leaves the cells after it.
--   back        the cells of a number, and more after them, are read as the number
-- Assumes nothing.
use mathlib.Core.Path.{◌≡◌, refl, subst, ap, ◌∙◌}
use mathlib.Core.Bool.{true}
use mathlib.Core.List.{List, [], ◌∷◌, ◌++◌, map, append_assoc}
use Prim.Native.Nat.{ℕ, zero, suc, ◌+◌, ◌<◌}
use native.Mathlib.Nat.{zero-add, suc-add, add-sub_cancel}
use native.Mathlib.Omega.{arith}
use lib.ListN.{length, length-append}
use borrow.Author.Tests.{le-leb}
use Rattle.numbers.specs.Size.{Size, Below}
use Rattle.grammar.specs.Rule.{Tree, done, fails, takes, reads, Rule}
use Rattle.walk.specs.Walk.{Event, cell, deep, shown, walk}
use Rattle.walk.specs.Run.{read, cell_of, follow, run}
use Rattle.grammar.specs.Law.{Path, end_of, items_of, Names, Under, Good}
use Rattle.grammar.proofs.Stepping.{under_mem}

-- ---- events that are all cells
nil_cells : (cs : List ℕ) → [] ≡ map cell cs → cs ≡ []
nil_cells [] e = refl
nil_cells (x ∷ xs) e = let z : ◌≡◌ {A = ℕ} 0 1 = cc in absurd (omega arith)

cell_cells : (c : ℕ) (es : List Event) (cs : List ℕ) → cell c ∷ es ≡ map cell cs → (ws : List ℕ) × (es ≡ map cell ws) × (cs ≡ c ∷ ws)
cell_cells c es [] e = let z : ◌≡◌ {A = ℕ} 0 1 = cc in absurd (omega arith)
cell_cells c es (x ∷ xs) e = (xs, cc, cc)

deep_cells : (es : List Event) (cs : List ℕ) → deep ∷ es ≡ map cell cs → ⊥
deep_cells es [] e = let z : ◌≡◌ {A = ℕ} 0 1 = cc in omega arith
deep_cells es (x ∷ xs) e = let z : ◌≡◌ {A = ℕ} 0 1 = cc in omega arith

split_cells : (xs ys : List Event) (cs : List ℕ) → xs ++ ys ≡ map cell cs
    → (ws : List ℕ) × (vs : List ℕ) × (xs ≡ map cell ws) × (ys ≡ map cell vs) × (cs ≡ ws ++ vs)
split_cells [] ys cs e = ([], cs, refl, e, refl)
split_cells (deep ∷ xs) ys cs e = absurd (deep_cells (xs ++ ys) cs e)
split_cells (cell c ∷ xs) ys cs e =
    let s = cell_cells c (xs ++ ys) cs e in
    let t = split_cells xs ys s.0 s.1 in
    (c ∷ t.0, t.1, ap (λ (es : List Event). cell c ∷ es) t.2, t.3, s.2 ∙ ap (λ (ds : List ℕ). c ∷ ds) t.4)

-- ---- room and cells
long_both : (ws vs : List ℕ) (q : ℕ) {cs : List ℕ} → cs ≡ ws ++ vs → length cs + q ≡ length ws + (length vs + q)
long_both ws vs q e = rw (e, length-append) (omega arith)

both_then : (ws vs rest : List ℕ) {cs : List ℕ} → cs ≡ ws ++ vs → cs ++ rest ≡ ws ++ (vs ++ rest)
both_then ws vs rest e = rw (e, append_assoc)

module _ (z : ℕ → Size) (count : ℕ) (g : ℕ → Rule) where
  -- every node's cells are read back, with a depth left
  abbrev Backs : ℕ → Type 0
  Backs d = (up i n : ℕ) → i < count → Below n (z i) → (cs : List ℕ) → walk g d up i n ≡ map cell cs → (q : ℕ) (rest : List ℕ)
      → run g d up i (length cs + q) (cs ++ rest) ≡ read n q rest

  module _ (d : ℕ) (ih : Backs d) where
    tree_back : (t : Tree) (xs : List ℕ) → Under count xs → Names z xs t → (w : Path z t) (up : ℕ) (cs : List ℕ)
        → shown (walk g d) up (items_of z t w) ≡ map cell cs → (q : ℕ) (rest : List ℕ)
        → follow (run g d) up t (length cs + q) (cs ++ rest) ≡ read (end_of z t w) q rest
    unfolding shown follow cell_of
    tree_back (done n) xs u o w up cs e q rest = rw (nil_cells cs e, zero-add q)
    tree_back fails xs u o w up cs e q rest = absurd w
    tree_back (takes f) xs u o w up cs e q rest =
        let s = cell_cells (w.0 + up) (shown (walk g d) 0 (items_of z (f w.0) w.1)) cs e in
        rw (s.2, suc-add, le-leb up (w.0 + up) (omega arith), add-sub_cancel w.0 up) (tree_back (f w.0) xs u (o w.0) w.1 0 s.0 s.1 q rest)
    tree_back (reads p k f) xs u o w up cs e q rest =
        let s = split_cells (walk g d (up + k) p w.0) (shown (walk g d) 0 (items_of z (f w.0) w.2)) cs e in
        rw (
          long_both s.0 s.1 q s.4,
          both_then s.0 s.1 rest s.4,
          ih (up + k) p w.0 (under_mem count xs u p o.0) w.1 s.0 s.2
              (length s.1 + q) (s.1 ++ rest),
        )
        (tree_back (f w.0) xs u (o.1 w.0 w.1) w.2 0 s.1 s.3 q rest)

  module _ (good : Good z count g) where
    pub back : (d : ℕ) → Backs d
    unfolding walk run
    back zero up i n l h cs e q rest = absurd (deep_cells [] cs e)
    back (suc d) up i n l h cs e q rest =
        let r = good.lawful i l in
        let s = r.writes n (subst (Below n) (good.sized i l) h) in
        tree_back d (back d) (g i).tree ((g i).steps true) r.inside r.names s.path up cs (ap (shown (walk g d) up) s.passes ∙ e) q rest ∙ ap
        (λ (m : ℕ). read m q rest) s.ends
