-- The numbers of a text, one a line.
--   one_within                                 a line that has one number lies in the text
--   numbers_end, numbers_more, numbers_not     the numbers from a place on, by what stands there
--   Passing, pass_start, pass_more, pass_not, pass_end    passed one by one
-- Assumes nothing.
use mathlib.Core.Path.{◌≡◌, refl, sym, ap, ◌∙◌}
use mathlib.Core.Bool.{Bool, true, false, cond}
use mathlib.Core.List.{List, [], ◌∷◌}
use Rattle.std.specs.Prelude.{Option, Some, None, option_map}
use Prim.Native.Nat.{ℕ, zero, suc, ◌-◌, ◌≤◌, ◌<◌}
use native.Mathlib.Omega.{arith}
use lib.Dec.{leb}
use lib.ListN.{length}
use borrow.Author.Tests.{le-leb, lt-leb, leb-false}
use Rattle.texts.specs.Line.{Reading, numbers, unreadable, line_at}
use Rattle.texts.proofs.line.Answered.{line_within}
use Rattle.printing.specs.Input.{alone, one_at, further, numbers_by, numbers_from, readable}
use Rattle.printing.specs.declared.input.One.{One}

alone_line : (x : Reading) {o : One} → alone x ≡ Some o → x ≡ numbers (o.number ∷ []) o.next
alone_line (numbers [] end) e = cc
alone_line (numbers (m ∷ []) end) {o} e =
    let same : record { number = m; next = end } ≡ o = cc in
    let a : m ≡ o.number = ap (λ (p : One). p.number) same in
    let b : end ≡ o.next = ap (λ (p : One). p.next) same in
    rw (a, b)
alone_line (numbers (m ∷ k ∷ ns) end) e = cc
alone_line unreadable e = cc

pub one_line : (text : List ℕ) (at : ℕ) {o : One} → one_at text at ≡ Some o → line_at text at ≡ numbers (o.number ∷ []) o.next
unfolding one_at
one_line text at e = alone_line (line_at text at) e

pub one_within : (text : List ℕ) (at : ℕ) {o : One} → one_at text at ≡ Some o → (at < o.next) × (o.next ≤ length text)
one_within text at e = line_within text at (one_line text at e)

-- any bound that is enough gives the same numbers
module _ (text : List ℕ) where
  enough : (f g at : ℕ) → length text - at < f → length text - at < g → numbers_by f text at ≡ numbers_by g text at
  unfolding numbers_by
  enough zero g at h l = absurd (omega arith)
  enough (suc f) zero at h l = absurd (omega arith)
  enough (suc f) (suc g) at h l = by (leb (length text) at) refl (one_at text at) refl (λ m a b. enough f g m a b)
    where
      by : (q : Bool) → leb (length text) at ≡ q → (o : Option One) → one_at text at ≡ o
          → ((m : ℕ) → length text - m < f → length text - m < g → numbers_by f text m ≡ numbers_by g text m)
          → cond q (Some []) (further o (numbers_by f text)) ≡ cond q (Some []) (further o (numbers_by g text))
      by true e o p r = refl
      by false e None p r = refl
      by false e (Some one) p r =
          let w = one_within text at p in
          let b = leb-false (length text) at e in
          rw (r one.next (omega arith) (omega arith))

  module _ (at : ℕ) where
    pub numbers_end : length text ≤ at → numbers_from text at ≡ Some []
    unfolding numbers_from numbers_by
    numbers_end l = rw (le-leb (length text) at l)

    module _ (l : at < length text) where
      pub numbers_not : one_at text at ≡ None → numbers_from text at ≡ None
      unfolding numbers_from numbers_by
      numbers_not e = rw (lt-leb (length text) at l, e)

      pub numbers_more : {o : One} → one_at text at ≡ Some o → numbers_from text at ≡ option_map (o.number ∷◌) (numbers_from text o.next)
      unfolding numbers_from numbers_by
      numbers_more {o} e =
          let w = one_within text at e in
          rw (lt-leb (length text) at l, e) (ap (option_map (o.number ∷◌)) (enough (length text) (suc (length text)) o.next (omega arith) (omega arith)))

-- ---- passed one by one: the whole is readable where the rest is
readable_map : (n : ℕ) (o : Option (List ℕ)) → readable (option_map (n ∷◌) o) ≡ readable o
readable_map n None = refl
readable_map n (Some ns) = refl

pub record Passing (text : List ℕ) (from at : ℕ) : Type 0 where
  pub is : readable (numbers_from text from) ≡ readable (numbers_from text at)

pub pass_start : {text : List ℕ} {from : ℕ} → Passing text from from
pass_start = record { is = refl }

module _ {text : List ℕ} {from at : ℕ} (s : Passing text from at) where
  pub pass_end : length text ≤ at → true ≡ readable (numbers_from text from)
  pass_end l = sym (s.is ∙ ap readable (numbers_end text at l))

  module _ (l : at < length text) {o : Option One} (e : o ≡ one_at text at) where
    pub pass_not : o ≡ None → false ≡ readable (numbers_from text from)
    pass_not q = sym (s.is ∙ ap readable (numbers_not text at l (sym e ∙ q)))

    pub pass_more : {one : One} → o ≡ Some one → Passing text from one.next
    pass_more {one} q = record { is = s.is ∙ ap readable (numbers_more text at l (sym e ∙ q)) ∙ readable_map one.number (numbers_from text one.next) }
