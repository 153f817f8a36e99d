-- Words copied to the front of a buffer.
--   copied    the front is replaced
--   counted   the words that an answer counts, at the front of a buffer
-- Assumes nothing.
use mathlib.Core.Path.{◌≡◌, sym, ◌∙◌}
use mathlib.Core.List.{List, ◌++◌}
use Prim.Native.Nat.{ℕ, ◌≤◌}
use native.Mathlib.Omega.{arith}
use lib.ListN.{length, take, drop, length-take}
use lib.Seq.{take_all}
use Rattle.lists.specs.Filled.{over}
use Rattle.lists.proofs.Fills.{over_is, over_front}

pub copied : (from old : List ℕ) {part : List ℕ} {count : ℕ} → part ≡ take count from → (count ≤ length from) × (count ≤ length old)
    → part ++ drop count old ≡ over (take count from) old
copied from old {part} {count} e l =
    let n : length (take count from) ≡ count = omega (arith, length-take count from) in
    let all : take (length old) (take count from) ≡ take count from = take_all (length old) (take count from) (omega arith) in
    rw e (sym (over_is (take count from) old ∙ rw (all, n)))

-- ---- the words that an answer counts
pub counted : (new old : List ℕ) {last : List ℕ} {c : ℕ} → last ≡ over new old → c ≡ length new → c ≤ length old → take c last ≡ new
counted new old e s l = rw (e, s) (over_front new old (omega arith))
