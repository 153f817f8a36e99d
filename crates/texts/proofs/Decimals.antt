-- The decimal text of a number, which is the library's.
--   decimal_same     of a word
--   decimal_digit_is   of a number below ten
-- Assumes nothing.
use mathlib.Core.Path.{◌≡◌, refl, sym, ap, ◌∙◌}
use mathlib.Core.Bool.{Bool, true, false}
use mathlib.Core.List.{[], ◌∷◌, ◌++◌}
use Prim.Native.Nat.{ℕ, zero, suc, ◌+◌, ◌/◌, ◌%◌, ◌^◌, ◌≤◌, ◌<◌}
use native.Mathlib.Omega.{arith}
use lib.Dec.{ltb}
use borrow.Author.Tests.{ltb-true, ltb-false}
use Rattle.std.specs.Fmt.{decimal as library_decimal}
use Rattle.std.proofs.lemmas.Fmt.{decimal_digit, decimal_step}
use Rattle.texts.specs.Decimal.{decimal_by, decimal}

-- any bound that is enough gives the same text
enough : (f n : ℕ) → n < f → n < 2 ^ 64 → library_decimal n ≡ decimal_by f n
unfolding decimal_by
enough zero n h l = absurd (omega arith)
enough (suc f) n h l = by (ltb n 10) refl (λ k. enough f (n / 10) k (omega arith))
  where
    by : (q : Bool) → ltb n 10 ≡ q → (n / 10 < f → library_decimal (n / 10) ≡ decimal_by f (n / 10))
        → library_decimal n ≡ elim q [ true ↦ (48 + n) ∷ [] | false ↦ decimal_by f (n / 10) ++ ((48 + n % 10) ∷ []) ]
    by true e r = decimal_digit n (ltb-true n 10 e)
    by false e r =
        let ten : 10 ≤ n = ltb-false n 10 e in
        decimal_step n ten l ∙ ap (◌++ ((48 + n % 10) ∷ [])) (r (omega arith))

pub decimal_same : (n : ℕ) → n < 2 ^ 64 → library_decimal n ≡ decimal n
unfolding decimal
decimal_same n h = enough (suc n) n (omega arith) h

pub decimal_digit_is : (n : ℕ) → n < 10 → (48 + n) ∷ [] ≡ decimal n
decimal_digit_is n l = sym (decimal_digit n l) ∙ decimal_same n (omega arith)
