-- The plan as it grows by a row.
--   plan_none, plan_more   an empty plan; a plan with one node more
--   plan_sizes             the sizes that the plan's words stand for
-- Assumes nothing.
use mathlib.Core.Path.{◌≡◌, refl, sym, ap, ◌∙◌}
use mathlib.Core.Logic.{⊎_elim}
use mathlib.Core.List.{List, [], ◌∷◌, ◌++◌}
use Prim.Native.Nat.{ℕ, zero, suc, ◌+◌, ◌≤◌, ◌<◌}
use native.Mathlib.Nat.{not-suc-le-zero}
use native.Mathlib.Omega.{arith}
use lib.ListN.{length, get_or, set, replicate, length-set, length-append}
use lib.Seq.{get_or-set_same, get_or-set_other}
use Rattle.numbers.specs.Size.{Size, code_of}
use Rattle.lists.proofs.Order.{same?}
use Rattle.grammar.specs.Table.{nodes}
use Rattle.grammar.specs.Sizes.{size_at}
use Rattle.grammar.specs.Law.{Fit}
use Rattle.grammar.specs.Plan.{blank, size_word, size_in, Enters, Planned}
use Rattle.grammar.specs.KindWords.{word_of_kind}
use Rattle.grammar.specs.declared.entry.Entry.{Entry}
use Rattle.grammar.proofs.PlanSizes.{sizes_as}
use Rattle.grammar.proofs.Sizes.{at_end, at_other}

nothing : (m k : ℕ) → get_or (replicate m blank) k blank ≡ blank
nothing zero k = refl
nothing (suc m) zero = refl
nothing (suc m) (suc k) = nothing m k

pub plan_none : (t : List ℕ) (plan : List Entry) → plan ≡ replicate (length plan) blank → nodes t ≤ length plan → Planned t [] 0 plan
plan_none t plan e l =
    let empty : (k : ℕ) → get_or plan k blank ≡ blank = λ k. rw e (nothing (length plan) k) in
    record {
      long = l;
      many = refl;
      kind = λ k l. absurd (not-suc-le-zero l);
      a = λ k l. absurd (not-suc-le-zero l);
      b = λ k l. absurd (not-suc-le-zero l);
      blank = λ k l. (ap (λ (x : Entry). word_of_kind x.kind) (empty k), ap (λ (x : Entry). x.a) (empty k), ap (λ (x : Entry). x.b) (empty k));
      size = λ k. ap (λ (x : Entry). x.size) (empty k);
      fit = λ k l. absurd (not-suc-le-zero l);
    }

module _ {t : List ℕ} {zs : List Size} {n : ℕ} {plan : List Entry} (h : Planned t zs n plan) (l : n < nodes t)
    (s : Size) (m : Fit s) {x : Entry} (words : Enters t n x) (e : x.size ≡ code_of s) where
  same_at : get_or (set plan n x) n blank ≡ x
  same_at = get_or-set_same plan n x blank (omega (arith, h.long))

  kept_at : (k : ℕ) → (k ≡ n → ⊥) → get_or (set plan n x) k blank ≡ get_or plan k blank
  kept_at k f = get_or-set_other plan n k x blank f

  sizes_at : (k : ℕ) → size_word (set plan n x) k ≡ code_of (size_at (zs ++ (s ∷ [])) k)
  sizes_at k =
      ⊎_elim (λ same. rw same (ap (λ (y : Entry). y.size) same_at ∙ e ∙ ap code_of (sym (at_end zs s n (sym h.many)))))
      (λ other. ap (λ (y : Entry). y.size) (kept_at k other) ∙ h.size k ∙ ap code_of (sym (at_other zs s k (λ q. other (q ∙ h.many))))) (same? k n)

  fits_at : (k : ℕ) → k < n + 1 → Fit (size_at (zs ++ (s ∷ [])) k)
  fits_at k q =
      ⊎_elim (λ same. rw (at_end zs s k (same ∙ sym h.many)) m)
      (λ other. rw (at_other zs s k (λ x. other (x ∙ h.many))) (h.fit k (omega arith))) (same? k n)

  pub plan_more : Planned t (zs ++ (s ∷ [])) (n + 1) (set plan n x)
  plan_more = record {
    long = simp length-set h.long;
    many = rw length-append (ap (λ (x : ℕ). x + 1) h.many);
    kind = λ k q. ⊎_elim (λ same. rw same (ap (λ (y : Entry). word_of_kind y.kind) same_at ∙ words.kind))
        (λ other. ap (λ (y : Entry). word_of_kind y.kind) (kept_at k other) ∙ h.kind k (omega arith)) (same? k n);
    a = λ k q. ⊎_elim (λ same. rw same (ap (λ (y : Entry). y.a) same_at ∙ words.a))
        (λ other. ap (λ (y : Entry). y.a) (kept_at k other) ∙ h.a k (omega arith)) (same? k n);
    b = λ k q. ⊎_elim (λ same. rw same (ap (λ (y : Entry). y.b) same_at ∙ words.b))
        (λ other. ap (λ (y : Entry). y.b) (kept_at k other) ∙ h.b k (omega arith)) (same? k n);
    blank = λ k q. let o = kept_at k (λ e. omega arith) in let (f, g, i) = h.blank k (omega arith) in
        (ap (λ (y : Entry). word_of_kind y.kind) o ∙ f, ap (λ (y : Entry). y.a) o ∙ g, ap (λ (y : Entry). y.b) o ∙ i);
    size = sizes_at;
    fit = fits_at;
  }

pub plan_sizes : {t : List ℕ} {zs : List Size} {n : ℕ} {plan : List Entry} → Planned t zs n plan → size_in plan ≡ size_at zs
plan_sizes {t} {zs} {n} {plan} h = sizes_as zs plan h.size (λ k l. h.fit k (omega (arith, h.many)))
