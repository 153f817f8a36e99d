-- What an input asks for, by what was read of it, line after line.
--   too_long, no_table, empty_table, some_table    by the table's line, which is the first
--   no_pool, some_pool                             by the pool's
--   no_start, some_start                           by the start node's
--   no_numbers                                     by those behind it
-- Assumes nothing.
use mathlib.Core.Path.{◌≡◌, refl, sym, ap, ◌∙◌}
use mathlib.Core.Bool.{Bool, false, true≢false}
use mathlib.Core.List.{List, [], ◌∷◌}
use Prim.Native.Nat.{ℕ, ◌≤◌, ◌<◌}
use native.Mathlib.Omega.{arith}
use lib.ListN.{length, take}
use borrow.Author.Tests.{le-leb, lt-leb}
use Rattle.std.specs.Prelude.{Option, Some, None}
use Rattle.texts.specs.Line.{Reading, numbers, unreadable, line_at, within, ReadLine}
use Rattle.texts.specs.declared.line.Line.{Line}
use Rattle.texts.proofs.line.Answered.{ReadNumbers, read_numbers, read_within, read_front, read_unreadable}
use Rattle.printing.specs.Input.{unclear, most_bytes, table_words, pool_words, not_empty, table_line, pool_line, one_at, numbers_from, readable}
use Rattle.printing.specs.Input.{with_numbers, with_start, with_pool, with_table, input_of}
use Rattle.printing.specs.declared.input.One.{One}

-- ---- the table's line
not_empty_none : (ns : List ℕ) (next : ℕ) → length ns ≡ 0 → not_empty (numbers ns next) ≡ unreadable
not_empty_none [] next s = refl
not_empty_none (n ∷ ns) next s = absurd (omega arith)

not_empty_some : (ns : List ℕ) (next : ℕ) → (length ns ≡ 0 → ⊥) → not_empty (numbers ns next) ≡ numbers ns next
not_empty_some [] next s = absurd (s refl)
not_empty_some (n ∷ ns) next s = refl

pub too_long : (text : List ℕ) → most_bytes < length text → unclear ≡ input_of text
unfolding input_of table_line
too_long text l = rw (lt-leb (length text) most_bytes l) refl

module _ {text : List ℕ} (l : length text ≤ most_bytes) {old last : List ℕ} {r : Option Line} (k : ReadLine text 0 old last r)
    (wide : length old ≡ table_words) where
  first_line : {x : Reading} → within (length old) (line_at text 0) ≡ x → table_line text ≡ not_empty x
  unfolding table_line
  first_line e = rw (le-leb (length text) most_bytes l, ← wide, e)

  pub no_table : r ≡ None → unclear ≡ input_of text
  unfolding input_of
  no_table e = sym (ap (with_table text) (first_line (read_unreadable k e).0))

  module _ {line : Line} (e : r ≡ Some line) where
    abbrev n : ReadNumbers text 0 old last line
    n = read_numbers k e

    pub empty_table : line.count ≡ 0 → unclear ≡ input_of text
    unfolding input_of
    empty_table z = sym (ap (with_table text) (first_line (read_within k e) ∙ not_empty_none n.ns line.next (n.size ∙ z)))

    pub some_table : (line.count ≡ 0 → ⊥) → with_pool text (take line.count last) (pool_line text line.next) ≡ input_of text
    unfolding input_of
    some_table f =
        let whole = first_line (read_within k e) ∙ not_empty_some n.ns line.next (λ s. f (sym n.size ∙ s)) in
        rw (read_front k e) (sym (ap (with_table text) whole))

-- ---- the pool's
module _ {text : List ℕ} {at : ℕ} (t : List ℕ) {old last : List ℕ} {r : Option Line} (k : ReadLine text at old last r) (size : length old ≡ pool_words) where
  pub no_pool : r ≡ None → unclear ≡ with_pool text t (pool_line text at)
  unfolding pool_line
  no_pool e = sym (ap (with_pool text t) (rw size at (read_unreadable k e).0))

  pub some_pool : {line : Line} → r ≡ Some line → with_start text t (take line.count last) (one_at text line.next) ≡ with_pool text t (pool_line text at)
  unfolding pool_line
  some_pool e = rw (read_front k e, ← size) (sym (ap (with_pool text t) (read_within k e)))

-- ---- the start node's, and the numbers'
module _ (text : List ℕ) (at : ℕ) (t p : List ℕ) {o : Option One} (e : o ≡ one_at text at) where
  pub no_start : o ≡ None → unclear ≡ with_start text t p (one_at text at)
  no_start q = sym (ap (with_start text t p) (sym e ∙ q))

  pub some_start : {one : One} → o ≡ Some one → with_numbers t p one.number (numbers_from text one.next) ≡ with_start text t p (one_at text at)
  some_start q = sym (ap (with_start text t p) (sym e ∙ q))

module _ (t p : List ℕ) (i : ℕ) (x : Option (List ℕ)) {b : Bool} (each : b ≡ readable x) where
  pub no_numbers : b ≡ false → unclear ≡ with_numbers t p i x
  no_numbers f = by x (sym each ∙ f)
    where
      by : (x : Option (List ℕ)) → readable x ≡ false → unclear ≡ with_numbers t p i x
      by None g = refl
      by (Some ns) g = absurd (true≢false g)
