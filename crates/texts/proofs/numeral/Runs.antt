-- Runs of digits, as the code meets them.
--   run_is                     the run is what the library takes while digits stand there
--   run_front, run_again       the run is the front of the text, and its own run
-- Assumes nothing.
use mathlib.Core.Path.{◌≡◌, refl, ap, ◌∙◌}
use mathlib.Core.Bool.{cond}
use mathlib.Core.List.{List, [], ◌∷◌, append-nil}
use Prim.Native.Nat.{ℕ}
use lib.ListN.{length, take, drop}
use lib.Seq.{take-append_seam}
use Rattle.std.specs.Char.{is_ascii_digit}
use Rattle.std.specs.List.{take_while}
use Rattle.std.proofs.lemmas.List.Sums.{take_while-cons}
use Rattle.texts.specs.Numeral.{run}
use Rattle.texts.proofs.numeral.Digits.{run_digits, run_split, run_of}

pub run_is : (bs : List ℕ) → take_while is_ascii_digit bs ≡ run bs
unfolding run
run_is [] = refl
run_is (b ∷ bs) = take_while-cons is_ascii_digit b bs ∙ ap (λ (ds : List ℕ). cond (is_ascii_digit b) (b ∷ ds) []) (run_is bs)

pub run_again : (bs : List ℕ) → run (run bs) ≡ run bs
run_again bs = rw append-nil at (run_of (run bs) [] (run_digits bs) tt)

pub run_front : (bs : List ℕ) → take (length (run bs)) bs ≡ run bs
run_front bs = ap (take (length (run bs))) (run_split bs) ∙ take-append_seam (run bs) (drop (length (run bs)) bs)
