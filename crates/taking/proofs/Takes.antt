-- A visit of a reading walk by its node's tree: what is read, of what was read of the parts. `go` says what parts read.
--   deep_taken, tree_taken, pass_taken   the visit itself: no depth left, a tree, a part alone
--   tag_..       a number below a count, and then what it leads to
--   part_..      a part, and then what its number leads to
--   last_..      the last part, and what is made of its number
--   two_..       a part, and a last one that may depend on its number
-- Assumes nothing.
use mathlib.Core.Path.{◌≡◌, refl, sym, ap, subst, ◌∙◌}
use mathlib.Core.Bool.{Bool, true, false}
use mathlib.Core.List.{List}
use Prim.Native.Nat.{ℕ, zero, suc, ◌+◌, ◌-◌, ◌^◌, ◌≤◌, ◌<◌}
use native.Mathlib.Numerals.{sub-one}
use native.Mathlib.Omega.{arith}
use lib.Dec.{ltb}
use borrow.Author.Tests.{ltb-false}
use Rattle.numbers.specs.Pick.{pick}
use Rattle.numbers.specs.Joined.{limit, capped, word_of}
use Rattle.grammar.specs.Rule.{Tree, done, fails, takes, reads, Rule}
use Rattle.grammar.specs.kinds.Below.{below_rule}
use Rattle.walk.specs.Run.{Read, read, wrong, then, cell_of, follow, run}
use Rattle.taking.specs.Took.{Took, exact, large, stops, Taken}
use Rattle.taking.proofs.Cells.{restated, taken_large, taken_number, cell_then, first_stops, first_then}

-- ---- a visit
then_read : (w : Read) → then w (λ m. read m) ≡ w
then_read (read m q cs) = refl
then_read (wrong r) = refl

run_by : (g : ℕ → Rule) (i off : ℕ) {d : ℕ} → (d ≡ 0 → ⊥) → {t : Tree} → (g i).tree ≡ t → (q : ℕ) (cs : List ℕ)
    → run g d off i q cs ≡ follow (run g (d - 1)) off t q cs
run_by g i off {d} f e q cs = by d f ∙ ap (λ (t : Tree). follow (run g (d - 1)) off t q cs) e
  where
    by : (e : ℕ) → (e ≡ 0 → ⊥) → run g e off i q cs ≡ follow (run g (e - 1)) off (g i).tree q cs
    by zero f = absurd (f refl)
    by (suc e) f = unfold run in rw sub-one

module _ (g : ℕ → Rule) (i off : ℕ) {d : ℕ} {row : List ℕ} {at : ℕ} where
  pub deep_taken : d ≡ 0 → {l next : ℕ} → Taken l (run g d off i) row at next (2 ^ 63 + 1)
  unfolding run
  deep_taken e = record { took = λ cells stop q. stops (omega arith) (rw e); inside = λ q. absurd (omega arith) }

  module _ (f : d ≡ 0 → ⊥) where
    pub tree_taken : {t : Tree} → (g i).tree ≡ t → {l l' k r : ℕ} → l' ≤ l → Taken l (follow (run g (d - 1)) off t) row at k r
        → Taken l' (run g d off i) row at k r
    tree_taken e le h = restated le (run_by g i off f e) h

    pub pass_taken : {a k u : ℕ} → (g i).tree ≡ reads a k (λ m. done m) → u ≡ off + k → {l l' e r : ℕ} → l' ≤ l → Taken l (run g (d - 1) u a) row at e r
        → Taken l' (run g d off i) row at e r
    unfolding follow
    pass_taken t o le h = restated le (λ q cs. run_by g i off f t q cs ∙ rw (← o, then_read)) h

-- ---- a tag: a number below k, which has been read as x, and then F of it
module _ (go : ℕ → ℕ → ℕ → List ℕ → Read) (off : ℕ) {row : List ℕ} {at : ℕ} (F : ℕ → Tree) (k : ℕ) (none : (c : ℕ) → k ≤ c → F c ≡ fails)
    {e x : ℕ} (h : Taken limit (follow go off (below_rule k).tree) row at e x) where
  tag_by : (q : ℕ) (cs : List ℕ) → follow go off (takes F) q cs ≡ then (follow go off (below_rule k).tree q cs) (λ c. follow go 0 (F c))
  unfolding follow below_rule
  tag_by q cs = cell_then off q cs _ ∙ (by (cell_of off q cs (λ c. read c)) ∙ sym (ap (λ (w : Read). then w (λ c. follow go 0 (F c))) (cell_then off q cs _)))
    where
      at_cell : (c q : ℕ) (cs : List ℕ) (b : Bool) → ltb c k ≡ b
          → follow go 0 (F c) q cs ≡ then (follow go 0 (pick b (done c) fails) q cs) (λ c. follow go 0 (F c))
      at_cell c q cs true e = refl
      at_cell c q cs false e = rw (none c (ltb-false c k e))

      by : (w : Read) → then w (λ c. follow go 0 (F c)) ≡ then (then w (λ c. follow go 0 (pick (ltb c k) (done c) fails))) (λ c. follow go 0 (F c))
      by (read c q cs) = at_cell c q cs (ltb c k) refl
      by (wrong r) = refl

  pub tag_stops : 2 ^ 63 < x → {l : ℕ} → Taken l (follow go off (takes F)) row at e x
  tag_stops b = first_stops h b (λ c. follow go 0 (F c)) tag_by

  pub tag_then : x < 2 ^ 63 → {t : Tree} → F x ≡ t → {l next w : ℕ} → Taken l (follow go 0 t) row e next w → Taken l (follow go off (takes F)) row at next w
  tag_then small {t} s {l} {next} {w} o =
      first_then h (omega arith) (λ c. follow go 0 (F c)) tag_by
      (λ m same above. subst (λ (u : Tree). Taken l (follow go 0 u) row e next w) (sym (ap F (same small) ∙ s)) o)

-- ---- a part, which has been read as x, and then F of it
module _ (go : ℕ → ℕ → ℕ → List ℕ → Read) (off : ℕ) {row : List ℕ} {at a : ℕ} (F : ℕ → Tree) {e x l : ℕ} (h : Taken l (go off a) row at e x) where
  part_by : (q : ℕ) (cs : List ℕ) → follow go off (reads a 0 F) q cs ≡ then (go off a q cs) (λ m. follow go 0 (F m))
  unfolding follow
  part_by q cs = let z : off + 0 ≡ off = omega arith in rw z

  pub part_stops : 2 ^ 63 < x → {l' : ℕ} → Taken l' (follow go off (reads a 0 F)) row at e x
  part_stops b = first_stops h b (λ m. follow go 0 (F m)) part_by

  pub part_then : x ≤ 2 ^ 63 → {l' next r : ℕ}
      → ((m : ℕ) → (x < 2 ^ 63 → m ≡ x) → (2 ^ 63 ≤ x → l ≤ m) → Taken l' (follow go 0 (F m)) row e next r)
      → Taken l' (follow go off (reads a 0 F)) row at next r
  part_then b o = first_then h b (λ m. follow go 0 (F m)) part_by o

-- ---- the last part, which has been read as y, and f of its number: at least as much
module _ (go : ℕ → ℕ → ℕ → List ℕ → Read) {row : List ℕ} {at b : ℕ} (f : ℕ → ℕ) (up : (m : ℕ) → m ≤ f m) {k l l' y : ℕ} (h : Taken l (go 0 b) row at k y) where
  -- Big, or a refusal
  pub last_stays : l' ≤ l → 2 ^ 63 ≤ y → Taken l' (follow go 0 (reads b 0 (λ m. done (f m)))) row at k y
  unfolding follow
  last_stays le g = record { took = λ cells stop q. by (h.took cells stop q); inside = h.inside }
    where
      by : {w : Read} {cells : List ℕ} {stop : ℕ} → Took l w cells stop k y → Took l' (then w (λ m. read (f m))) cells stop k y
      by (exact a e) = absurd (omega arith)
      by (large a m b e) = large a (f m) (omega (arith, up m)) (rw e)
      by (stops a e) = stops a (rw e)

  module _ (g : y < 2 ^ 63) where
    -- what came before was Big
    last_big : ((m : ℕ) → l' ≤ f m) → Taken l' (follow go 0 (reads b 0 (λ m. done (f m)))) row at k (2 ^ 63)
    unfolding follow
    last_big hi = part_then go 0 (λ m. done (f m)) h (omega arith) (λ m same above. taken_large (hi m) (h.inside (omega arith)))

    pub last_number : l' ≤ limit → {r : ℕ} → r ≡ word_of (capped (f y)) → Taken l' (follow go 0 (reads b 0 (λ m. done (f m)))) row at k r
    unfolding follow
    last_number hi {r} e =
        part_then go 0 (λ m. done (f m)) h (omega arith)
        (λ m same above. taken_number (f m) hi (h.inside (omega arith)) (subst (λ (n : ℕ). r ≡ word_of (capped (f n))) (sym (same g)) e))

-- ---- a part, which has been read as x, and a last one: c m is its node, J m n the whole number
module _ (go : ℕ → ℕ → ℕ → List ℕ → Read) (off : ℕ) {row : List ℕ} {at a : ℕ} (c : ℕ → ℕ) (J : ℕ → ℕ → ℕ) {e x l : ℕ} (h : Taken l (go off a) row at e x)
    (s : x ≤ 2 ^ 63) {b : ℕ} (node : (m : ℕ) → (x < 2 ^ 63 → m ≡ x) → c m ≡ b)
    (least : (m : ℕ) → (x < 2 ^ 63 → m ≡ x) → (n : ℕ) → (m ≤ J m n) × (n ≤ J m n))
    {next y l' : ℕ} (le : l' ≤ l) (k : Taken l (go 0 b) row e next y) where
  abbrev two : Tree
  two = reads a 0 (λ m. reads (c m) 0 (λ n. done (J m n)))

  two_then : {w : ℕ}
      → ((m : ℕ) → (x < 2 ^ 63 → m ≡ x) → (2 ^ 63 ≤ x → l ≤ m) → Taken l' (follow go 0 (reads b 0 (λ n. done (J m n)))) row e next w)
      → Taken l' (follow go off two) row at next w
  two_then {w} o =
      part_then go off (λ m. reads (c m) 0 (λ n. done (J m n))) h s
      (λ m same above. subst (λ (p : ℕ). Taken l' (follow go 0 (reads p 0 (λ n. done (J m n)))) row e next w) (sym (node m same)) (o m same above))

  pub two_stays : 2 ^ 63 ≤ y → Taken l' (follow go off two) row at next y
  two_stays b = two_then (λ m same above. last_stays go (J m) (λ n. (least m same n).1) k le b)

  pub two_big : y < 2 ^ 63 → 2 ^ 63 ≤ x → Taken l' (follow go off two) row at next (2 ^ 63)
  two_big b o = two_then (λ m same above. last_big go (J m) (λ n. (least m same n).1) k b (λ n. omega (arith, above o, (least m same n).0)))

  pub two_number : l' ≤ limit → y < 2 ^ 63 → x < 2 ^ 63 → {w : ℕ} → w ≡ word_of (capped (J x y)) → Taken l' (follow go off two) row at next w
  two_number hi b o {w} q =
      two_then (λ m same above. last_number go (J m) (λ n. (least m same n).1) k b hi (subst (λ (p : ℕ). w ≡ word_of (capped (J p y))) (sym (same o)) q))
