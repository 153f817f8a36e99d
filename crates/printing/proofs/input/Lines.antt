-- What is known of a line that is to have one number, by what was read of it.
--   one_none, one_some, one_not    by the answer
-- Assumes nothing.
use mathlib.Core.Path.{◌≡◌, refl, ◌∙◌}
use mathlib.Core.List.{List, [], ◌∷◌, ◌++◌}
use Prim.Native.Nat.{ℕ}
use native.Mathlib.Omega.{arith}
use lib.ListN.{length, get_or, drop}
use Rattle.texts.specs.Line.{Reading, numbers, unreadable, line_at, within, ReadLine}
use Rattle.texts.specs.declared.line.Line.{Line}
use Rattle.std.specs.Prelude.{Option, Some, None}
use Rattle.texts.proofs.line.Answered.{read_numbers, read_unreadable}
use Rattle.printing.specs.Input.{alone, one_at}

-- with room for one, a line of more is unreadable
none_within : (x : Reading) → within 1 x ≡ unreadable → None ≡ alone x
none_within (numbers [] next) e = cc
none_within (numbers (n ∷ []) next) e = cc
none_within (numbers (n ∷ m ∷ ns) next) e = refl
none_within unreadable e = refl

module _ {text : List ℕ} {at : ℕ} {old last : List ℕ} {r : Option Line} (k : ReadLine text at old last r) where
  module _ {l : Line} (e : r ≡ Some l) where
    pub one_none : l.count ≡ 0 → None ≡ one_at text at
    unfolding one_at
    one_none z = let g = read_numbers k e in by g.ns (g.size ∙ z) g.is
      where
        by : (ns : List ℕ) → length ns ≡ 0 → line_at text at ≡ numbers ns l.next → None ≡ alone (line_at text at)
        by [] s f = rw f
        by (n ∷ ns) s f = absurd (omega arith)

    pub one_some : length old ≡ 1 → (l.count ≡ 0 → ⊥) → Some (record { number = get_or last 0 0; next = l.next }) ≡ one_at text at
    unfolding one_at
    one_some w z = let g = read_numbers k e in by g.ns (omega (arith, g.size, g.room)) g.is g.leaves
      where
        by : (ns : List ℕ) → length ns ≡ 1 → line_at text at ≡ numbers ns l.next → last ≡ ns ++ drop l.count old
            → Some (record { number = get_or last 0 0; next = l.next }) ≡ alone (line_at text at)
        by [] s f h = absurd (omega arith)
        by (n ∷ []) s f h = rw (f, h)
        by (n ∷ m ∷ ns) s f h = absurd (omega arith)

  pub one_not : length old ≡ 1 → r ≡ None → None ≡ one_at text at
  unfolding one_at
  one_not w e = none_within (line_at text at) (rw w at (read_unreadable k e).0)
