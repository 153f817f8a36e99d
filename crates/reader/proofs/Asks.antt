-- The answers of one reader, an ask at a time.
--   an_ask   an ask and those after it
--   four     four asks of a reader that was made over a row
-- Assumes nothing.
use mathlib.Core.Path.{◌≡◌, refl}
use mathlib.Core.List.{List, [], ◌∷◌}
use Prim.Native.Nat.{ℕ, suc}
use denote.Bor.{Bor}
use Rattle.rows.specs.Reader.{Reply, NextAnswer, next_answer, Moved}
use Rattle.rows.specs.declared.reader.Reader.{Reader}
use Rattle.reader.specs.Asked.{asked, Asked}

module _ (t p : List ℕ) (i : ℕ) where
  abbrev Asks : Reader → ℕ → List NextAnswer → Type 0
  Asks y k l = l ≡ asked t p i y.row.now y.at k

  an_ask : {y z : Reader} {n : Reply} (k : ℕ) {l : List NextAnswer} → Moved t p i y n z → Asks z k l → Asks y (suc k) (next_answer n ∷ l)
  unfolding asked
  an_ask {y} {z} {n} k {l} (h, same) rest = rw (h.says, rest, same, h.goes)

  none : (y : Reader) → Asks y 0 []
  unfolding asked
  none y = refl

  pub four : (s : Bor (List ℕ)) {y a b d e : Reader} {k l m n : Reply} → (y.row ≡ s) × (y.at ≡ 0) → Moved t p i y k a → Moved t p i a l b
      → Moved t p i b m d → Moved t p i d n e → Asked t p i s.now (record { first = k; second = l; third = m; fourth = n })
  four s {y} {a} {b} {d} {e} (over, front) f g h i = rw (← over, ← front) (an_ask 3 f (an_ask 2 g (an_ask 1 h (an_ask 0 i (none e)))))
