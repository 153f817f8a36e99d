-- Demand 2 said of the promise of `write` itself (`Wrote`: the answer and the buffer's last words).
--   case_written, written_then_read, read_then_written   as in `Rattle.cases.proofs.BothSides`
-- Assumes nothing.
use mathlib.Core.Path.{◌≡◌, refl, sym, ap, ◌∙◌}
use mathlib.Core.List.{List}
use Prim.Native.Nat.{ℕ, ◌≤◌, ◌<◌}
use lib.ListN.{length, take}
use Rattle.std.specs.Prelude.{Ok}
use Rattle.grammar.specs.Refusals.{accepted}
use Rattle.cases.specs.Write.{Written}
use Rattle.grammar.specs.Table.{nodes}
use Rattle.grammar.specs.Verdict.{verdict}
use Rattle.grammar.specs.Sizes.{rules_of}
use Rattle.walk.specs.Room.{Case}
use Rattle.checked.specs.Fits.{Asked}
use Rattle.cases.specs.Write.{Wrote}
use Rattle.cases.specs.Read.{reads}
use Rattle.cases.proofs.Counted.{written_cells}
use Rattle.cases.proofs.BothSides as Both-sides
use Rattle.cases.proofs.Values.{wrote_is}

module _ (t p : List ℕ) (a : verdict t p ≡ accepted) (i : ℕ) (l : i < nodes t) where
  pub case_written : {n : ℕ} {cs old last : List ℕ} {r : Written} → Asked (rules_of t p i).size n → Case (rules_of t p) i n cs → length cs ≤ length old
      → Wrote t p i n old last r → (r ≡ Ok (length cs)) × (take (length cs) last ≡ cs)
  case_written {n} {cs} {old} q c f h =
      let (e, same) = Both-sides.case_written t p a i l n (length old) cs q c f in
      (wrote_is h ∙ e, written_cells h (length cs) (wrote_is h ∙ e) ∙ same)

  pub written_then_read : {n k : ℕ} {old last : List ℕ} → Wrote t p i n old last (Ok k) → reads t p i (take k last) ≡ Ok n
  written_then_read {n} {k} {old} h = ap (reads t p i) (written_cells h k refl) ∙ Both-sides.written_then_read t p a i l n (length old) k (sym (wrote_is h))

  pub read_then_written : {n : ℕ} {cs old last : List ℕ} {r : Written} → reads t p i cs ≡ Ok n → length cs ≤ length old → Wrote t p i n old last r
      → (r ≡ Ok (length cs)) × (take (length cs) last ≡ cs)
  read_then_written {n} {cs} e f h = let (q, c) = Both-sides.only_cases t p a i l n cs e in case_written q c f h
