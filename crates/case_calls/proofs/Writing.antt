-- What `write` has printed, and left in the buffer: its other words are as they were.
--   prints_done, prints_refused    by its answer
--   one_not, one_text, one_kept, one_leaves    by its numbers: it has one
-- Assumes nothing.
use mathlib.Core.Path.{◌≡◌, refl, ap, ◌∙◌}
use mathlib.Core.List.{List, [], ◌∷◌, ◌++◌}
use Prim.Native.Nat.{ℕ}
use native.Mathlib.Omega.{arith}
use lib.ListN.{length, get_or, take, drop}
use Rattle.grammar.specs.Sizes.{rules_of}
use Rattle.grammar.specs.declared.refusal.Refused.{Refused}
use Rattle.walk.specs.Walk.{walk, cells, depth}
use Rattle.std.specs.Prelude.{Ok, Err}
use Rattle.cases.specs.Write.{Written, writes, leaves, Wrote}
use Rattle.cases.proofs.Counted.{written_size, written_cells}
use Rattle.cases.proofs.Values.{wrote_is}
use Rattle.texts.specs.declared.page.Page.{Page}
use Rattle.texts.specs.Page.{Puts}
use Rattle.texts.specs.Said.{unreadable_text, refused_text, refused_line}
use Rattle.texts.proofs.page.Putting.{told}
use Rattle.asking.specs.Buffer.{start_words}
use Rattle.asking.specs.Texts.{cells_text, end_text}
use Rattle.asking.proofs.Buffers.{filled_length, end_done, end_left}
use Rattle.case_calls.specs.Write.{write_text, case_text, PrintsCase, alone, write_leaves}

module _ {t p : List ℕ} {i n : ℕ} (old : List ℕ) {filled last : List ℕ} {r : Written} (start : filled ≡ start_words 0 (length old))
    (k : Wrote t p i n filled last r) where
  answer : r ≡ writes t p i n (length old)
  answer = wrote_is k ∙ ap (writes t p i n) (filled_length old start)

  left : (w : Written) → r ≡ w → last ≡ leaves w (cells (walk (rules_of t p) depth 0 i n)) filled
  left w e = k.holds ∙ ap (λ (x : Written). leaves x (cells (walk (rules_of t p) depth 0 i n)) filled) e

  prints : {page page' : Page} → Puts (case_text t p i (length old) n) page page' → PrintsCase t p i n old last page page'
  prints g = record { puts = g; buffer = rw (← start) (left (writes t p i n (length old)) answer) }

  pub prints_done : {count : ℕ} → r ≡ Ok count → {page page' : Page}
      → Puts (cells_text count (take count last) ++ end_text last count) page page' → PrintsCase t p i n old last page page'
  unfolding case_text write_text
  prints_done {count} e g =
      let cs = cells (walk (rules_of t p) depth 0 i n) in
      prints (told (rw (← answer, e, written_cells k count e, end_done (length old) cs filled (written_size k count e) (left (Ok count) e) start)) g)

  pub prints_refused : {x : Refused} → r ≡ Err x → {page page' : Page}
      → Puts (refused_text x.refusal x.node ++ end_text last 0) page page' → PrintsCase t p i n old last page page'
  unfolding case_text write_text refused_line
  prints_refused {x} e g = prints (told (rw (← answer, e, end_left (length old) (left (Err x) e) start)) g)

-- ---- NUMBER, and no more
module _ (f : ℕ → ℕ → ℕ → List ℕ) (i room : ℕ) where
  pub one_not : (ns : List ℕ) → (length ns ≡ 1 → ⊥) → unreadable_text ≡ alone f i room ns
  unfolding alone
  one_not [] h = refl
  one_not (n ∷ []) h = absurd (h refl)
  one_not (n ∷ m ∷ ns) h = refl

  pub one_text : (ns : List ℕ) → length ns ≡ 1 → f i room (get_or ns 0 0) ≡ alone f i room ns
  unfolding alone
  one_text [] h = absurd (omega arith)
  one_text (n ∷ []) h = refl
  one_text (n ∷ m ∷ ns) h = absurd (omega arith)

module _ (t p : List ℕ) (i room : ℕ) (old : List ℕ) where
  pub one_kept : (ns : List ℕ) → (length ns ≡ 1 → ⊥) → old ≡ write_leaves t p i room ns old
  unfolding write_leaves
  one_kept [] h = refl
  one_kept (n ∷ []) h = absurd (h refl)
  one_kept (n ∷ m ∷ ns) h = refl

  pub one_leaves : (ns : List ℕ) → length ns ≡ 1 → {ws : List ℕ}
      → ws ≡ leaves (writes t p i (get_or ns 0 0) room) (cells (walk (rules_of t p) depth 0 i (get_or ns 0 0))) (start_words 0 room)
      → ws ++ drop room old ≡ write_leaves t p i room ns old
  unfolding write_leaves
  one_leaves [] h e = absurd (omega arith)
  one_leaves (n ∷ []) h e = ap (◌++ drop room old) e
  one_leaves (n ∷ m ∷ ns) h e = absurd (omega arith)
