-- What is known by the answer of `write`.
--   written_fits    the answer Ok: no more cells than words were lent
--   written_size    the count is that of the case's cells
--   written_cells   the words that it counts are the case's cells
-- Assumes nothing.
use mathlib.Core.Path.{◌≡◌, sym, ap, ◌∙◌}
use mathlib.Core.List.{List}
use Prim.Native.Nat.{ℕ, ◌≤◌}
use native.Mathlib.Omega.{arith}
use lib.ListN.{length, take}
use Rattle.grammar.specs.Sizes.{rules_of}
use Rattle.checked.specs.Fits.{case_cells}
use Rattle.checked.proofs.Copying.{counted}
use Rattle.cases.specs.Write.{Written, leaves, Wrote}
use Rattle.std.specs.Prelude.{Ok}
use Rattle.cases.proofs.Values.{wrote_is}
use Rattle.cases.proofs.WalkAnswers.{writes_done}

module _ {t p : List ℕ} {i n : ℕ} {old last : List ℕ} {r : Written} (k : Wrote t p i n old last r) (count : ℕ) (e : r ≡ Ok count) where
  tells : (count ≤ length old) × (count ≡ length (case_cells (rules_of t p) i n))
  tells = let (_, s, c, f) = writes_done t p i n (length old) count (sym (wrote_is k) ∙ e) in (omega arith, sym c)

  pub written_fits : count ≤ length old
  written_fits = tells.0

  pub written_size : count ≡ length (case_cells (rules_of t p) i n)
  written_size = tells.1

  pub written_cells : take count last ≡ case_cells (rules_of t p) i n
  written_cells =
      let cs = case_cells (rules_of t p) i n in
      counted cs old (k.holds ∙ ap (λ (w : Written). leaves w cs old) e) written_size written_fits
