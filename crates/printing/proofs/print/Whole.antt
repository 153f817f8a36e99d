-- What an input prints, by its shape.
--   no_line                     where its first line is no table's
--   no_shape, some_shape
-- Assumes nothing.
use mathlib.Core.Path.{◌≡◌, refl, ap}
use mathlib.Core.Bool.{true, false≢true}
use mathlib.Core.List.{List}
use Prim.Native.Nat.{ℕ}
use lib.ListN.{take}
use Rattle.std.specs.Prelude.{Option, Some, None}
use Rattle.texts.specs.declared.page.Page.{Page}
use Rattle.texts.specs.Page.{Puts}
use Rattle.texts.specs.Said.{unreadable_text}
use Rattle.texts.proofs.page.Putting.{told as named}
use Rattle.printing.specs.Input.{numbers_from, readable, with_numbers}
use Rattle.printing.specs.Shape.{Shapes, Tabled}
use Rattle.printing.specs.Printed.{told, printed, Judges}
use Rattle.printing.specs.declared.shape.Shape.{Shape}
use Rattle.printing.specs.declared.shape.TableLine.{TableLine}

pub no_line : {text table : List ℕ} {r : Option TableLine} → Tabled text table r → r ≡ None → unreadable_text ≡ printed text
unfolding printed told
no_line k e = ap told (rw e at k.is)

module _ {text table pool : List ℕ} {r : Option Shape} (k : Shapes text table pool r) where
  pub no_shape : r ≡ None → unreadable_text ≡ printed text
  unfolding printed told
  no_shape e = ap told (rw e at k.is)

  pub some_shape : {s : Shape} → r ≡ Some s → {old last : Page} → Judges text s.from (take s.table table) (take s.pool pool) s.start old last
      → Puts (printed text) old last
  unfolding printed told
  some_shape {s} e {old} {last} g = named (ap told (rw e at k.is)) (by (numbers_from text s.from) refl (rw e at k.each))
    where
      by : (x : Option (List ℕ)) → numbers_from text s.from ≡ x → readable x ≡ true
          → Puts (told (with_numbers (take s.table table) (take s.pool pool) s.start x)) old last
      by None h z = absurd (false≢true z)
      by (Some ns) h z = g.print ns h
