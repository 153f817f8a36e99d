-- What a test shows of a definition that goes by it, and what two tests show together.
--   pick_by                what holds of the one that is picked, whichever it is
--   and_left, and_right    each of two tests holds where both do
--   kept                   a test that keeps a value, in std's word and in that of the definitions
--   or_left, or_right      one of two tests holds where either does; or_true   and then one of them
--   tests                  one list for `search`: the tests of a rule, from those of the code
-- Assumes nothing.
use mathlib.Core.Path.{◌≡◌, refl}
use mathlib.Core.Bool.{Bool, true, false, ◌||◌}
use mathlib.Core.Logic.{◌⊎◌, inl, inr}
use borrow.Author.Tests.{lt-ltb, le-ltb, le-leb, lt-leb, eq-eqb, ne_eqb}
use Rattle.std.specs.Prelude.{Some, None}
use Rattle.std.specs.Bool.{then_some}
use Rattle.numbers.specs.Pick.{pick}
pub use mathlib.Mathlib.Data.Bool.Basic.{and_elim_left as and_left, and_elim_right as and_right, or_inl as or_left, or_inr as or_right}

pub pick_by : {A : Type 0} (P : A → Type 0) (b : Bool) {x y : A} → (b ≡ true → P x) → (b ≡ false → P y) → P (pick b x y)
pick_by P true f g = f refl
pick_by P false f g = g refl

pub kept : {A : Type 0} (b : Bool) (x : A) → then_some b x ≡ pick b (Some x) None
kept true x = refl
kept false x = refl

pub or_true : (a b : Bool) → (a || b) ≡ true → (a ≡ true) ⊎ (b ≡ true)
or_true true b e = inl refl
or_true false b e = inr e

pub ruleset tests = (lt-ltb, le-ltb, le-leb, lt-leb, eq-eqb, ne_eqb)
