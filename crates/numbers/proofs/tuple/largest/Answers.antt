-- `numbers::tuple::largest` is the largest part number.
-- Assumes nothing.
use mathlib.Core.Path.{◌≡◌, refl, sym, ap, ◌∙◌}
use mathlib.Core.List.{List, [], ◌∷◌}
use Prim.Native.Nat.{ℕ, max}
use native.Mathlib.Omega.{arith}
use Rattle.std.specs.Prelude.{unwrap_or}
use Rattle.std.specs.List.{reduce, fold}
use Rattle.std.proofs.lemmas.Iterator.Adapters.{option_map_id}
use Rattle.std.proofs.lemmas.Iterator.{YieldsList-from_slice}
use Rattle.std.proofs.lemmas.Iterator.Consumers.{YieldsList-from_copied, max_from_yields_List}
use Rattle.numbers.specs.Tuple.{largest}
use Rattle.numbers.proofs.tuple.largest.Goals as goal

from : (x : ℕ) (xs : List ℕ) → fold max x xs ≡ max x (largest xs)
unfolding largest
from x [] = omega arith
from x (y ∷ ys) = from (max x y) ys ∙ omega arith

most : (xs : List ℕ) → unwrap_or (reduce max xs) 0 ≡ largest xs
unfolding largest
most [] = refl
most (x ∷ xs) = from x xs

pub returns : goal.returns
returns c =
    let e = max_from_yields_List _ _ c.max.ensures.ran (YieldsList-from_copied (YieldsList-from_slice c.args.parts.now cc)) in
    c.unwrap_or.ensures ∙ ap (λ o. unwrap_or o 0) (sym (option_map_id c.max.result) ∙ e) ∙ most c.args.parts.now
