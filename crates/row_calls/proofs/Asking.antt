-- A reader that is asked again and again.
--   Asking, ask_none, ask_more, nearer   the asks so far
--   ask_end, ask_refused                 the last one
-- Assumes nothing.
use mathlib.Core.Path.{◌≡◌, refl, sym, ap, ◌∙◌}
use mathlib.Core.List.{List, [], ◌++◌, append_assoc}
use Prim.Native.Nat.{ℕ, zero, suc, ◌-◌, ◌<◌}
use native.Mathlib.Omega.{arith}
use lib.ListN.{length}
use Rattle.grammar.specs.declared.refusal.Refused.{Refused}
use Rattle.std.specs.Prelude.{Some, None, Ok, Err}
use Rattle.rows.specs.Reader.{Reply, next_of, after_of, stride_of}
use Rattle.rows.specs.declared.reader.Next.{Next}
use Rattle.rows.specs.declared.reader.Stride.{Stride}
use Rattle.rows.proofs.CountedRows.{next_moves}
use Rattle.texts.specs.Ascii.{bytes}
use Rattle.texts.specs.declared.page.Page.{Page}
use Rattle.texts.specs.Page.{Puts}
use Rattle.texts.specs.Said.{refused_line}
use Rattle.texts.proofs.page.Putting.{none, told, ◌then◌}
use Rattle.asking.specs.Texts.{item_text}
use Rattle.row_calls.specs.Reader.{onward, asks_by, asks_text}

pub record Asking (t p : List ℕ) (i : ℕ) (row : List ℕ) (page now : Page) (at : ℕ) : Type 0 where
  pub said : List ℕ
  pub times : ℕ
  pub enough : length row - at < times
  pub is : asks_text t p i row ≡ said ++ asks_by times t p i row at
  pub so_far : Puts said page now

pub ask_none : {t p : List ℕ} {i : ℕ} {row : List ℕ} {page : Page} → Asking t p i row page page 0
unfolding asks_text
ask_none {row = row} = record { said = []; times = suc (length row); enough = omega arith; is = refl; so_far = none }

module _ {t p : List ℕ} {i : ℕ} {row : List ℕ} {page now : Page} {at : ℕ} (s : Asking t p i row page now at) {next : Stride}
    (e : next ≡ stride_of t p i row at) where
  asks_step : (times : ℕ) → length row - at < times → {x : Reply} → next.answer ≡ x
      → (f : ℕ) × (times ≡ suc f) × (asks_by times t p i row at ≡ onward x (asks_by f t p i row next.at))
  unfolding asks_by
  asks_step zero l q = absurd (omega arith)
  asks_step (suc f) l q = (
    f,
    refl,
    rw (e) (ap (λ (x : Reply). onward x (asks_by f t p i row (after_of at (next_of t p i row at))))
        (sym (ap (λ (y : Stride). y.answer) e) ∙ q)),
  )

  pub nearer : {d : Next} → next.answer ≡ Ok (Some d) → length row - next.at < length row - at
  nearer {d} q =
      let is : next_of t p i row at ≡ Ok (Some d) = sym (ap (λ (x : Stride). x.answer) e) ∙ q in
      let (l, some, fits) = next_moves t p i d.number d.cells row at is in
      let to = ap (λ (x : Stride). x.at) e ∙ ap (after_of at) is in
      omega arith

  pub ask_more : {d : Next} → next.answer ≡ Ok (Some d) → {last : Page} → Puts (item_text d.number d.cells) now last → Asking t p i row page last next.at
  ask_more {d} q g =
      let (f, less, text) = asks_step s.times s.enough q in
      record {
        said = s.said ++ item_text d.number d.cells;
        times = f;
        enough = omega (arith, s.enough, less, nearer q);
        is = s.is ∙ rw text (sym (append_assoc s.said (item_text d.number d.cells) (asks_by f t p i row next.at)));
        so_far = s.so_far then g;
      }

  pub ask_end : next.answer ≡ Ok None → {last : Page} → Puts (bytes "end\n") now last → Puts (asks_text t p i row) page last
  ask_end q g = let (f, less, text) = asks_step s.times s.enough q in told (sym (s.is ∙ ap (λ (y : List ℕ). s.said ++ y) text)) (s.so_far then g)

  pub ask_refused : {x : Refused} → next.answer ≡ Err x → {last : Page} → Puts (refused_line x.refusal x.node) now last → Puts (asks_text t p i row) page last
  ask_refused q g = let (f, less, text) = asks_step s.times s.enough q in told (sym (s.is ∙ ap (λ (y : List ℕ). s.said ++ y) text)) (s.so_far then g)
