-- What a visit has read, by what its word says: what is read of the word is read of what it says.
--   unread_over   a word that says why nothing is read is above every number
--   read_some, read_none, read_err   a number; one past the limit; none
--   read_ok       a word that says a number, whichever
-- Assumes nothing.
use mathlib.Core.Path.{◌≡◌, refl, sym, ap, subst, ◌∙◌}
use mathlib.Core.Bool.{Bool}
use mathlib.Core.List.{List}
use Prim.Native.Nat.{ℕ, ◌^◌, ◌≤◌, ◌<◌}
use native.Mathlib.Omega.{arith}
use Rattle.std.specs.Prelude.{Option, Some, None, Ok, Err}
use Rattle.walk.specs.Run.{Read, wrong}
use Rattle.taking.specs.declared.number.Unread.{Unread}
use Rattle.taking.specs.declared.number.Unread.TheVariants.{TooDeep, NotACase, RowEnds}
use Rattle.taking.specs.Number.{unread, why, Says}
use Rattle.taking.specs.Took.{why_of, stops, Taken}
use Rattle.taking.proofs.Cells.{refused}

pub unread_over : (u : Unread) → 2 ^ 63 < unread u
unread_over TooDeep = omega arith
unread_over NotACase = omega arith
unread_over RowEnds = omega arith

pub why_is : (u : Unread) (full : Bool) → why_of full (unread u) ≡ why u full
why_is TooDeep full = refl
why_is NotACase full = refl
why_is RowEnds full = refl

module _ {l : ℕ} {reads : ℕ → List ℕ → Read} {row : List ℕ} {at k w : ℕ} (h : Taken l reads row at k w) where
  pub read_some : {o : Option ℕ} → Says (Ok o) w → {m : ℕ} → o ≡ Some m → Taken l reads row at k m × (m < 2 ^ 63)
  read_some s {m} e =
      let f : Says (Ok (Some m)) w = subst (λ (o : Option ℕ). Says (Ok o) w) e s in
      (subst (Taken l reads row at k) f.0 h, omega (arith, f.0, f.1))

  pub read_none : {o : Option ℕ} → Says (Ok o) w → o ≡ None → Taken l reads row at k (2 ^ 63)
  read_none s e = subst (Taken l reads row at k) (subst (λ (o : Option ℕ). Says (Ok o) w) e s) h

  pub read_err : (u : Unread) → Says (Err u) w → Taken l reads row at k (unread u)
  read_err u s = record {
    took = λ cells stop e. stops (unread_over u) (refused (h.took cells stop e) s.0 ∙ ap wrong (s.1 _ ∙ sym (why_is u _)));
    inside = λ q. absurd (omega (arith, unread_over u));
  }

pub read_ok : {w : ℕ} (o : Option ℕ) → Says (Ok o) w → w ≤ 2 ^ 63
read_ok (Some n) s = omega (arith, s.1)
read_ok None s = omega (arith, s)
