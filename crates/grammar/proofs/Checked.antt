-- A table whose nodes pass is checked.
--   row_holds    a row that gives a size has all its checks passed
--   row_fit      and the size fits
--   row_same     a row looks at the sizes before its node alone
--   onward_of    a node more
--   scan_long, scan_passed   of the nodes below n, among the sizes of the scan
--   sizes_fit, good_of, checked_of   of a whole table
--   step_lower   in a checked table all steps lead to lower nodes but again's
-- Assumes nothing.
use mathlib.Core.Path.{◌≡◌, refl, sym, subst, ap, ◌∙◌, fun_ext}
use mathlib.Core.Bool.{Bool, true, false}
use mathlib.Core.Logic.{⊎_elim}
use mathlib.Core.List.{List, [], ◌∷◌, ◌++◌}
use Prim.Native.Nat.{ℕ, zero, suc, ◌*◌, ◌≤◌, ◌<◌}
use native.Mathlib.Nat.{not-suc-le-zero}
use native.Mathlib.Numerals.{add-one}
use native.Mathlib.Omega.{arith}
use lib.Dec.{ltb}
use lib.ListN.{length, length-append}
use borrow.Author.Tests.{ltb-true}
use Rattle.numbers.specs.Pick.{pick}
use Rattle.numbers.specs.Size.{Size, finite, endless}
use Rattle.lists.proofs.Order.{same?}
use Rattle.grammar.specs.Table.{kind_of, a_of, b_of, nodes}
use Rattle.grammar.specs.Checks.{Check, asks, Row, fault, sized, row}
use Rattle.grammar.specs.Law.{Fit, Holds, Under, Good}
use Rattle.grammar.specs.Kind.{Kind, before, spare}
use Rattle.grammar.specs.kinds.{kinds, unknown, kind_in}
use Rattle.grammar.specs.Nodes.{node_at, rule_at, row_at}
use Rattle.grammar.specs.Checked.{Checked}
use Rattle.grammar.specs.Sizes.{Scan, passed, faulty, size_at, noted, onward, scan}
use Rattle.grammar.specs.declared.refusal.Refusal.{Refusal}
use Rattle.grammar.specs.declared.refusal.Refusal.TheVariants.{SpareWord}
use Rattle.grammar.specs.kinds.Fix.{pass_rule}
use Rattle.grammar.proofs.KindLaw.{KindLaw, Lower, each_kind, each_but}
use Rattle.grammar.proofs.laws.{laws, unknown_law, lowers, unknown_lower}
use Rattle.grammar.proofs.Sizes.{at_end, at_other}

-- ---- a row
passes : (q : Bool) (r : Refusal) (cs : List Check) (s : Size) {m : Size} → row (asks q r ∷ cs) s ≡ sized m → (q ≡ true) × (row cs s ≡ sized m)
unfolding row
passes true r cs s e = (refl, e)
passes false r cs s e = let z : ◌≡◌ {A = ℕ} 0 1 = cc in absurd (omega arith)

pub row_holds : (cs : List Check) (s : Size) {m : Size} → row cs s ≡ sized m → Holds cs × (m ≡ s)
row_holds [] s e = (tt, unfold row in cc)
row_holds (asks q r ∷ cs) s e = let (h, f) = passes q r cs s e in let (hs, g) = row_holds cs s f in ((h, hs), g)

-- ---- sizes that agree before n
before_same : (z z' : ℕ → Size) (n : ℕ) → ((i : ℕ) → i < n → z i ≡ z' i) → before z n ≡ before z' n
before_same z z' n f = fun_ext (λ i. by i (ltb i n) refl)
  where
    by : (i : ℕ) (q : Bool) → ltb i n ≡ q → pick q (z i) (finite 0) ≡ pick q (z' i) (finite 0)
    by i true e = f i (ltb-true i n e)
    by i false e = refl

-- a row looks at the sizes before its node alone
pub row_same : (t p : List ℕ) (z z' : ℕ → Size) (n : ℕ) → ((i : ℕ) → i < n → z i ≡ z' i) → row_at t p z n ≡ row_at t p z' n
unfolding row_at rule_at
row_same t p z z' n f =
    let k = kind_in (kind_of t n) in
    ap (λ (y : ℕ → Size). row (asks (spare k (a_of t n) (b_of t n)) SpareWord ∷ k.checks (node_at t p n) y) (k.rule (a_of t n) (b_of t n) p y).size)
    (before_same z z' n f)

-- ---- the scan
sized_of : (n : ℕ) (zs : List Size) {ys : List Size} (r : Row) → noted n zs r ≡ passed ys → (s : Size) × (r ≡ sized s) × (ys ≡ zs ++ (s ∷ []))
sized_of n zs (fault f) e = let x : ◌≡◌ {A = ℕ} 0 1 = cc in absurd (omega arith)
sized_of n zs (sized s) e = (s, refl, cc)

module _ (t p : List ℕ) where
  abbrev kind : ℕ → Kind
  kind k = kind_in (kind_of t k)

  law : (k : ℕ) → KindLaw (kind k)
  law k = each_kind KindLaw kinds unknown laws unknown_law (kind_of t k)

  -- node k passes, among sizes z
  module _ (z : ℕ → Size) (k : ℕ) {s : Size} (r : row_at t p z k ≡ sized s) where
    row_at_lem : Holds ((kind k).checks (node_at t p k) (before z k)) × (s ≡ (rule_at t p z k).size)
    unfolding row_at
    row_at_lem = let (h, q) = row_holds _ _ r in (h.1, q)

    pub row_fit : ((i : ℕ) → i < k → Fit (z i)) → Fit s
    unfolding rule_at
    row_fit f = rw (row_at_lem.1, (law k).sees (node_at t p k) z row_at_lem.0) ((law k).fit (node_at t p k) z f row_at_lem.0)

  pub onward_of : (n : ℕ) (q : Scan) {ys : List Size} → onward t p n q ≡ passed ys
      → (zs : List Size) × (q ≡ passed zs) × ((s : Size) × (row_at t p (size_at zs) n ≡ sized s) × (ys ≡ zs ++ (s ∷ [])))
  unfolding onward
  onward_of n (passed zs) e = (zs, refl, sized_of n zs (row_at t p (size_at zs) n) e)
  onward_of n (faulty r k) e = let x : ◌≡◌ {A = ℕ} 0 1 = cc in absurd (omega arith)

  -- node k has passed, among sizes z
  pub record Passed (z : ℕ → Size) (k : ℕ) : Type 0 where
    pub holds : Holds ((kind k).checks (node_at t p k) (before z k))
    pub size : z k ≡ (rule_at t p z k).size
    pub fit : Fit (z k)

  -- the sizes that come later change nothing
  passed_same : (z z' : ℕ → Size) (k : ℕ) → ((i : ℕ) → i < k → z i ≡ z' i) → {s : Size} → z' k ≡ s
      → Holds ((kind k).checks (node_at t p k) (before z k)) → s ≡ (rule_at t p z k).size → Fit s → Passed z' k
  unfolding rule_at
  passed_same z z' k f here h q m =
      let e = before_same z z' k f in
      record {
        holds = subst (λ y. Holds ((kind k).checks (node_at t p k) y)) e h;
        size = here ∙ q ∙ ap (λ y. ((kind k).rule (a_of t k) (b_of t k) p y).size) e;
        fit = subst Fit (sym here) m;
      }

  pub scan_long : (n : ℕ) {zs : List Size} → scan t p n ≡ passed zs → length zs ≡ n
  unfolding scan
  scan_long zero {zs} e = let q : zs ≡ [] = cc in ap length q
  scan_long (suc n) e = let (ys, q, (s, r, f)) = onward_of n (scan t p n) e in rw (f, length-append, scan_long n q, add-one)

  pub scan_passed : (n : ℕ) {zs : List Size} → scan t p n ≡ passed zs → (k : ℕ) → k < n → Passed (size_at zs) k
  unfolding scan
  scan_passed zero e k l = absurd (not-suc-le-zero l)
  scan_passed (suc n) {zs} e k l =
      let (ys, q, (s, r, f)) = onward_of n (scan t p n) e in
      let long = scan_long n q in
      let ih = scan_passed n q in
      let old : (i : ℕ) → i < n → size_at ys i ≡ size_at (ys ++ (s ∷ [])) i = λ i m. sym (at_other ys s i (λ x. omega arith)) in
      rw f
      (⊎_elim
      (λ same. let (h, g) = row_at_lem (size_at ys) n r in
      rw same (passed_same (size_at ys) _ n old (at_end ys s n (sym long)) h g (row_fit (size_at ys) n r (λ i m. (ih i m).fit))))
      (λ other. let w = ih k (omega arith) in
      passed_same (size_at ys) _ k (λ i m. old i (omega arith)) (sym (old k (omega arith))) w.holds w.size w.fit)
      (same? k n))

  -- ---- a whole table
  endless_fix : (i : ℕ) → kind_of t i ≡ 8 → (z : ℕ → Size) → (rule_at t p z i).size ≡ endless
  unfolding rule_at pass_rule
  endless_fix i e z = ap (λ (w : ℕ). ((kind_in w).rule (a_of t i) (b_of t i) p (before z i)).size) e

  module _ {zs : List Size} (e : scan t p (nodes t) ≡ passed zs) where
    pub sizes_fit : (k : ℕ) → k < nodes t → Fit (size_at zs k)
    sizes_fit k l = (scan_passed (nodes t) e k l).fit

    pub good_of : Good (size_at zs) (nodes t) (rule_at t p (size_at zs))
    unfolding rule_at
    good_of = record {
      lawful = λ i l.
          let h = (scan_passed (nodes t) e i l).holds in
          rw ((law i).sees (node_at t p i) (size_at zs) h)
          ((law i).lawful (node_at t p i) (size_at zs)
          (record { node = l; fit = λ j m. sizes_fit j (omega arith); fixes = λ j m k. (scan_passed (nodes t) e j m).size ∙ endless_fix j k (size_at zs) }) h);
      sized = λ i l. (scan_passed (nodes t) e i l).size;
    }

    pub checked_of : length t ≡ 3 * nodes t → nodes t ≤ 256 → Checked t p (size_at zs)
    checked_of w f = record { whole = w; few = f; holds = λ n l. (scan_passed (nodes t) e n l).holds; good = good_of; fit = sizes_fit }

-- an again goes up to its fix
pub step_lower : {t p : List ℕ} {z : ℕ → Size} {n : ℕ} → Checked t p z → n < nodes t → (kind_of t n ≡ 9 → ⊥) → Under n ((rule_at t p z n).steps true)
unfolding rule_at
step_lower {t} {p} {z} {n} c l f = each_but Lower kinds unknown 9 lowers unknown_lower (kind_of t n) f (node_at t p n) z (c.holds n l)
