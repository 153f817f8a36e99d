-- What a call says in 01's values, and the enum's case that has them: two answers with the same values are the same answer.
--   check_is               `check`
--   written_one, wrote_is  `write`
--   found_one, read_is     `read`
-- Assumes nothing.
use mathlib.Core.Path.{◌≡◌, refl, sym, ap, ◌∙◌}
use mathlib.Core.List.{List}
use Prim.Native.Nat.{ℕ}
use lib.ListN.{length}
use Rattle.grammar.specs.Verdict.{verdict, answer, check_says}
use Rattle.std.specs.Prelude.{Ok, Err}
use Rattle.grammar.specs.Refusals.{Verdict, refused}
use Rattle.grammar.proofs.Values.{by_refusal, refused_back, answer_one}
use Rattle.cases.specs.Write.{Written, writes, WriteAnswer, written, write_says, Wrote}
use Rattle.cases.specs.Read.{Found, reads, ReadAnswer, read_of, read_says}

-- ---- check
pub check_is : (t p : List ℕ) {v : Verdict} → answer v ≡ check_says t p → v ≡ verdict t p
unfolding check_says
check_is t p {v} e = answer_one v (verdict t p) e

-- ---- write
written_of : WriteAnswer → Written
written_of a = by_refusal a.refusal (Ok a.cells) (λ r. refused r a.node)

written_back : (w : Written) → written_of (written w) ≡ w
unfolding written written_of
written_back (Ok k) = refl
written_back (Err e) = refused_back (Ok 0) (λ r. refused r e.node) e.refusal

written_one : (w x : Written) → written w ≡ written x → w ≡ x
written_one w x e = sym (written_back w) ∙ ap written_of e ∙ written_back x

pub wrote_is : {t p : List ℕ} {i n : ℕ} {old last : List ℕ} {r : Written} → Wrote t p i n old last r → r ≡ writes t p i n (length old)
unfolding write_says
wrote_is {t} {p} {i} {n} {old} {last} {r} h = written_one r (writes t p i n (length old)) h.says

-- ---- read
found_of : ReadAnswer → Found
found_of a = by_refusal a.refusal (Ok a.number) (λ r. refused r a.node)

found_back : (f : Found) → found_of (read_of f) ≡ f
unfolding read_of found_of
found_back (Ok n) = refl
found_back (Err e) = refused_back (Ok 0) (λ r. refused r e.node) e.refusal

pub found_one : (f g : Found) → read_of f ≡ read_of g → f ≡ g
found_one f g e = sym (found_back f) ∙ ap found_of e ∙ found_back g

pub read_is : (t p : List ℕ) (i : ℕ) (cs : List ℕ) {r : Found} → read_of r ≡ read_says t p i cs → r ≡ reads t p i cs
unfolding read_says
read_is t p i cs {r} e = found_one r (reads t p i cs) e
