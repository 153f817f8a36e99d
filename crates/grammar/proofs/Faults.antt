-- The first fault of a table, "nodes rising".
--   FirstFault   every node below k passes its row, and k's row fails first with r; zs has the sizes of the nodes below k
--   in_row_lem       a row gives refusals 2 to 8 alone
--   stays        a fault that is found stays
--   first_of, scan_by   the scan finds a fault exactly where there is a first one
-- Assumes nothing.
use mathlib.Core.Path.{◌≡◌, refl, sym, ap, ◌∙◌}
use mathlib.Core.Bool.{true, false, ◌&&◌}
use mathlib.Core.Logic.{⊎_elim}
use mathlib.Core.List.{List, [], ◌∷◌, ◌++◌}
use Prim.Native.Nat.{ℕ, zero, suc, ◌≤◌, ◌<◌}
use native.Mathlib.Nat.{not-suc-le-zero, le_of_suc-le-suc, eq-or-lt_of_le}
use native.Mathlib.Omega.{arith}
use lib.Dec.{leb}
use lib.ListN.{length, take}
use lib.Seq.{take-suc, get_or-take, take_all}
use borrow.Author.Tests.{leb-true}
use Rattle.numbers.specs.Size.{Size, finite}
use Rattle.numbers.proofs.Tests.{and_left, and_right}
use Rattle.lists.proofs.Order.{same?}
use Rattle.grammar.specs.Table.{kind_of, nodes}
use Rattle.grammar.specs.Checks.{Check, asks, Row, fault, sized, row}
use Rattle.grammar.specs.Refusals.{number_of}
use Rattle.grammar.specs.Kind.{before}
use Rattle.grammar.specs.kinds.{kinds, unknown}
use Rattle.grammar.specs.Nodes.{node_at, row_at}
use Rattle.grammar.specs.Sizes.{Scan, passed, faulty, size_at, noted, onward, scan}
use Rattle.grammar.specs.declared.refusal.Refusal.{Refusal}
use Rattle.grammar.proofs.KindLaw.{KindLaw, in_row, each_kind}
use Rattle.grammar.proofs.laws.{laws, unknown_law}
use Rattle.grammar.proofs.Sizes.{at_end, at_other}
use Rattle.grammar.proofs.Checked.{row_same, onward_of, scan_long}

pub record FirstFault (t p : List ℕ) (r : Refusal) (k : ℕ) : Type 0 where
  pub node : k < nodes t
  pub zs : List Size
  pub many : length zs ≡ k
  pub passes : (j : ℕ) → j < k → row_at t p (size_at zs) j ≡ sized (size_at zs j)
  pub fails : row_at t p (size_at zs) k ≡ fault r

-- ---- the refusals of a row
row_in : (cs : List Check) (s : Size) {r : Refusal} → in_row cs ≡ true → row cs s ≡ fault r → (2 ≤ number_of r) × (number_of r ≤ 8)
unfolding row
row_in [] s h e = let z : ◌≡◌ {A = ℕ} 0 1 = cc in absurd (omega arith)
row_in (asks true x ∷ cs) s h e = row_in cs s (and_right (leb 2 (number_of x) && leb (number_of x) 8) (in_row cs) h) e
row_in (asks false x ∷ cs) s {r} h e =
    let l = and_left (leb 2 (number_of x) && leb (number_of x) 8) (in_row cs) h in
    let q : x ≡ r = cc in
    rw (← q) (leb-true 2 (number_of x) (and_left (leb 2 (number_of x)) _ l), leb-true (number_of x) 8 (and_right (leb 2 (number_of x)) _ l))

pub in_row_lem : (t p : List ℕ) (z : ℕ → Size) (n : ℕ) {r : Refusal} → row_at t p z n ≡ fault r → (2 ≤ number_of r) × (number_of r ≤ 8)
unfolding row_at number_of
in_row_lem t p z n e = row_in _ _ ((each_kind KindLaw kinds unknown laws unknown_law (kind_of t n)).gives (node_at t p n) (before z n)) e

-- ---- the scan
pub stays : (t p : List ℕ) (m k : ℕ) {r : Refusal} {i : ℕ} → k ≤ m → scan t p k ≡ faulty r i → scan t p m ≡ faulty r i
unfolding scan onward
stays t p zero k l e = let z : k ≡ 0 = omega arith in rw z at e
stays t p (suc m) k l e = ⊎_elim (λ same. rw same at e) (λ less. rw (stays t p m k (le_of_suc-le-suc less) e)) (eq-or-lt_of_le l)

module _ (t p : List ℕ) where
  rows_of : (n : ℕ) {zs : List Size} → scan t p n ≡ passed zs → (j : ℕ) → j < n → row_at t p (size_at zs) j ≡ sized (size_at zs j)
  unfolding scan
  rows_of zero e j l = absurd (not-suc-le-zero l)
  rows_of (suc n) {zs} e j l =
      let (ys, q, (s, r, f)) = onward_of t p n (scan t p n) e in
      let long = scan_long t p n q in
      let old : (k : ℕ) → k ≤ n → (i : ℕ) → i < k → size_at (ys ++ (s ∷ [])) i ≡ size_at ys i = λ k m i o. at_other ys s i (λ x. omega arith) in
      rw f
      (⊎_elim (λ same. rw same (row_same t p _ (size_at ys) n (old n (omega arith)) ∙ r ∙ ap sized (sym (at_end ys s n (sym long)))))
      (λ other. row_same t p _ (size_at ys) j (old j (omega arith)) ∙ rows_of n q j (omega arith) ∙ ap sized (sym (at_other ys s j (λ x. omega arith))))
      (same? j n))

  fault_of : (n : ℕ) {r : Refusal} {k : ℕ} → scan t p n ≡ faulty r k
      → (k < n) × ((zs : List Size) × (scan t p k ≡ passed zs) × (row_at t p (size_at zs) k ≡ fault r))
  unfolding scan onward
  fault_of zero e = let z : ◌≡◌ {A = ℕ} 0 1 = cc in absurd (omega arith)
  fault_of (suc n) {r} {k} e = by (scan t p n) refl e (fault_of n)
    where
      at_row : (zs : List Size) → scan t p n ≡ passed zs → (x : Row) → row_at t p (size_at zs) n ≡ x → noted n zs x ≡ faulty r k
          → (k < suc n) × ((ys : List Size) × (scan t p k ≡ passed ys) × (row_at t p (size_at ys) k ≡ fault r))
      at_row zs q (fault y) f g =
          let same : n ≡ k = cc in
          let what : y ≡ r = cc in
          rw (← same, ← what) (omega arith, (zs, q, f))
      at_row zs q (sized s) f g = let z : ◌≡◌ {A = ℕ} 0 1 = cc in absurd (omega arith)

      by : (q : Scan) → scan t p n ≡ q → onward t p n q ≡ faulty r k
          → (scan t p n ≡ faulty r k → (k < n) × ((zs : List Size) × (scan t p k ≡ passed zs) × (row_at t p (size_at zs) k ≡ fault r)))
          → (k < suc n) × ((zs : List Size) × (scan t p k ≡ passed zs) × (row_at t p (size_at zs) k ≡ fault r))
      by (passed zs) q f ih = at_row zs q (row_at t p (size_at zs) n) refl f
      by (faulty y j) q f ih = let (l, rest) = ih (q ∙ f) in (omega arith, rest)

  pub first_of : {r : Refusal} {k : ℕ} → scan t p (nodes t) ≡ faulty r k → FirstFault t p r k
  first_of {r} {k} e =
      let (l, (zs, q, f)) = fault_of (nodes t) e in
      record { node = l; zs = zs; many = scan_long t p k q; passes = rows_of k q; fails = f }

-- ---- and back
module _ {t p : List ℕ} {r : Refusal} {k : ℕ} (h : FirstFault t p r k) where
  scan_front : (n : ℕ) → n ≤ k → scan t p n ≡ passed (take n h.zs)
  unfolding scan onward
  scan_front zero l = refl
  scan_front (suc n) l =
      let row_is = row_same t p (size_at (take n h.zs)) (size_at h.zs) n (λ i m. get_or-take n h.zs i (finite 0) m) ∙ h.passes n (omega arith) in
      rw (scan_front n (omega arith), row_is, ← take-suc h.zs n (finite 0) (omega (arith, h.many)))

  pub scan_by : scan t p (nodes t) ≡ faulty r k
  unfolding scan onward
  scan_by =
      let front : scan t p k ≡ passed h.zs = scan_front k (omega arith) ∙ ap passed (take_all k h.zs (omega (arith, h.many))) in
      stays t p (nodes t) (suc k) h.node (rw (front, h.fails))
