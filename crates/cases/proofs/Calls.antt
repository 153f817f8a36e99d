-- What the code of `read` and `write` has found, in the words of their promises: by how the call opened, and then by the case.
--   read_refused, read_number, read_not      `read`
--   wrote_refused, wrote_cells, wrote_not    `write`
-- Assumes nothing.
use mathlib.Core.Path.{◌≡◌, sym, ap, ◌∙◌}
use mathlib.Core.List.{List}
use Prim.Native.Nat.{ℕ}
use lib.ListN.{length}
use Rattle.std.specs.Prelude.{Result, Ok, Err}
use Rattle.grammar.specs.Refusals.{refused}
use Rattle.grammar.specs.declared.refusal.Refusal.{Refusal}
use Rattle.grammar.specs.declared.refusal.Refused.{Refused}
use Rattle.checked.specs.Opening.{opening}
use Rattle.checked.specs.Opened.{Place, rules, Stands}
use Rattle.checked.specs.Item.{whole, Stood}
use Rattle.checked.specs.Fits.{Fit, Placed}
use Rattle.checked.specs.declared.item.Item.{Item}
use Rattle.checked.proofs.Standing.{stood}
use Rattle.cases.specs.Read.{found, reads, read_of, read_says}
use Rattle.cases.specs.Write.{wrote, writes, written, write_says, Wrote}

-- ---- the table or the start is refused
module _ (t p : List ℕ) (i : ℕ) {e : Refused} (h : opening t p i ≡ Err e) where
  pub read_refused : (cs : List ℕ) → read_of (Err e) ≡ read_says t p i cs
  unfolding reads read_says
  read_refused cs = rw h

  pub wrote_refused : {n : ℕ} {old last : List ℕ} → last ≡ old → Wrote t p i n old last (Err e)
  unfolding writes write_says
  wrote_refused g = record { says = rw h; holds = g }

module _ {t p : List ℕ} {i : ℕ} {o : Place} (h : Stands t p i o) where
  -- ---- read
  module _ (cs : List ℕ) {r : Result Item Refusal} (w : Stood (whole (rules o) o.start cs) cs 0 r) where
    read_is : reads t p i cs ≡ found (whole (rules o) o.start cs)
    unfolding reads
    read_is = rw (h.accepts, h.same, h.start)

    pub read_number : {k : Item} → r ≡ Ok k → read_of (Ok k.number) ≡ read_says t p i cs
    unfolding read_says
    read_number q = rw (read_is, (stood w q).0)

    pub read_not : {x : Refusal} → r ≡ Err x → read_of (refused x 0) ≡ read_says t p i cs
    unfolding read_says
    read_not q = rw (read_is, stood w q)

  -- ---- write
  module _ {n : ℕ} {old last : List ℕ} {f : Fit} (w : Placed (rules o) o.start n old last f) where
    says : {k : Fit} → f ≡ k → written (wrote k) ≡ write_says t p i n (length old)
    unfolding writes write_says
    says q = ap written (rw (h.accepts, ← h.same, ← h.start) (ap wrote (sym q ∙ w.is)))

    pub wrote_cells : {k : ℕ} → f ≡ Ok k → Wrote t p i n old last (Ok k)
    wrote_cells q = record { says = says q; holds = rw (q, h.same, h.start) at w.holds }

    pub wrote_not : {x : Refusal} → f ≡ Err x → Wrote t p i n old last (refused x 0)
    wrote_not q = record { says = says q; holds = rw q at w.holds }
