-- A list by its place, number by number.
--   Spread        what is done, and the list that is left, are the whole
--   lower_spread, at_spread   one more, which is below the largest number, or is that
--   all_spread    all done
-- Assumes nothing.
use mathlib.Core.Path.{◌≡◌, ap, ◌∙◌}
use mathlib.Core.Bool.{Bool, true, false}
use mathlib.Core.List.{List, ◌∷◌, ◌++◌, append_assoc, append-nil}
use Prim.Native.Nat.{ℕ, suc, ◌+◌, ◌*◌, ◌-◌, ◌/◌, ◌%◌, ◌≤◌, ◌<◌}
use native.Mathlib.Numerals.{add-one}
use native.Mathlib.Omega.{arith}
use lib.ListN.{length, take, set, length-set}
use lib.Seq.{take-suc-set, take-length}
use borrow.Author.Tests.{lt-ltb, le-ltb}
use Rattle.numbers.specs.Tuple.{ways, tail}

pub record Spread (t r d : ℕ) (parts : List ℕ) (left : ℕ) (seen : Bool) (j : ℕ) : Type 0 where
  pub within : j ≤ t
  pub long : length parts ≡ t
  pub whole : take j parts ++ tail seen r (t - j) left ≡ tail false r t d

module _ {t r d : ℕ} {parts : List ℕ} {left : ℕ} {seen : Bool} {j : ℕ} (s : Spread t r d parts left seen j) where
  pub all_spread : t ≤ j → parts ≡ tail false r t d
  unfolding tail
  all_spread h =
      let e : j ≡ length parts = omega (arith, s.within, s.long) in
      let z : t - length parts ≡ 0 = omega (arith, s.long) in
      rw (e, z, append-nil, take-length) at s.whole

  -- one more
  module _ (k : j < t) {ps : List ℕ} {l : ℕ} {q : Bool} where
    more : (v : ℕ) → ps ≡ set parts j v → tail seen r (suc (t - 1 - j)) left ≡ v ∷ tail q r (t - 1 - j) l → Spread t r d ps l q (j + 1)
    more v a b =
        let y : suc (t - 1 - j) ≡ t - j = omega arith in
        let z : t - (j + 1) ≡ t - 1 - j = omega arith in
        record {
          within = omega arith;
          long = ap length a ∙ simp length-set s.long;
          whole = rw (a, z, add-one j, take-suc-set parts j v (omega (arith, s.long)), append_assoc, ← b, y) s.whole;
        }

    module _ {w : ℕ} (e : w ≡ ways seen r (t - 1 - j)) where
      pub lower_spread : left < r * w → ps ≡ set parts j (left / w) → l ≡ left % w → q ≡ seen → Spread t r d ps l q (j + 1)
      unfolding tail
      lower_spread h a b c = more (left / w) a (rw (← e, lt-ltb left (r * w) h, b, c))

      pub at_spread : r * w ≤ left → ps ≡ set parts j r → l ≡ left - r * w → q ≡ true → Spread t r d ps l q (j + 1)
      unfolding tail
      at_spread h a b c = more r a (rw (← e, le-ltb left (r * w) h, b, c))
