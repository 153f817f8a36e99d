-- What the two lines after `table` make known, and print.
--   no_table, no_pool, both     by what was read of them
--   said_not, said_none         what they print
-- Assumes nothing.
use mathlib.Core.Path.{◌≡◌, refl, sym, ap, ◌∙◌}
use mathlib.Core.Bool.{Bool, true, false, not}
use mathlib.Core.List.{List, []}
use Prim.Native.Nat.{ℕ}
use lib.ListN.{length, take}
use Rattle.std.specs.Prelude.{Option, Some, None, is_some}
use Rattle.texts.specs.Line.{Reading, numbers, unreadable, line_at, within, ReadLine}
use Rattle.texts.specs.Said.{unreadable_text}
use Rattle.texts.specs.declared.line.Line.{Line}
use Rattle.texts.proofs.line.Answered.{read_numbers, read_within, read_front, read_unreadable}
use Rattle.calling.specs.Calls.{Known, about, nothing}
use Rattle.calling.specs.Input.{after, most_table_words, most_pool_words, both_read, table_at, table_text}
use Rattle.calling.specs.Desk.{known_in}
use Rattle.calling.specs.declared.sizes.Sizes.{Sizes}

half : (x : Reading) → nothing ≡ both_read x unreadable
half (numbers t next) = refl
half unreadable = refl

module _ {text : List ℕ} {at : ℕ} {table table' : List ℕ} (wide : length table ≡ most_table_words) {r : Option Line}
    (k : ReadLine text at table table' r) where
  pub no_table : r ≡ None → nothing ≡ table_at text at
  unfolding table_at
  no_table e = let u : within most_table_words (line_at text at) ≡ unreadable = rw wide at (read_unreadable k e).0 in rw u refl

  module _ {middle : ℕ} (m : middle ≡ after text at) {pool pool' : List ℕ} (deep : length pool ≡ most_pool_words) {q : Option Line}
      (j : ReadLine text middle pool pool' q) where
    pub no_pool : q ≡ None → nothing ≡ table_at text at
    unfolding table_at
    no_pool e =
        let u : within most_pool_words (line_at text (after text at)) ≡ unreadable = rw (deep, m) at (read_unreadable j e).0 in
        rw u (half (within most_table_words (line_at text at)))

    pub both : {a b : Line} → r ≡ Some a → q ≡ Some b → about (take a.count table') (take b.count pool') ≡ table_at text at
    unfolding table_at
    both {a} {b} e f =
        let n = read_numbers k e in
        let o = read_numbers j f in
        let u : within most_table_words (line_at text at) ≡ numbers n.ns a.next = rw wide at (read_within k e) in
        let v : within most_pool_words (line_at text (after text at)) ≡ numbers o.ns b.next =
        ap (λ (i : ℕ). within most_pool_words (line_at text i)) (sym m) ∙ rw deep at (read_within j f) in
        rw (read_front k e, read_front j f, u, v) refl

module _ (table pool : List ℕ) where
  unknown : (o : Option Sizes) → is_some o ≡ false → known_in o table pool ≡ nothing
  unknown None f = refl
  unknown (Some s) f = cc

  no_text : (o : Option Sizes) → is_some o ≡ true → [] ≡ table_text (known_in o table pool)
  no_text None f = cc
  no_text (Some s) f = refl

  module _ (o : Option Sizes) {k : Known} (e : known_in o table pool ≡ k) {b : Bool} (h : is_some o ≡ not b) where
    pub said_not : b ≡ true → unreadable_text ≡ table_text k
    said_not f = ap table_text (sym (unknown o (h ∙ ap not f)) ∙ e)

    pub said_none : b ≡ false → [] ≡ table_text k
    said_none f = no_text o (h ∙ ap not f) ∙ ap table_text e
