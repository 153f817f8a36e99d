-- Tuples "in order of their largest part number, and within one largest number in dictionary order" (02).
--   largest        of part numbers
--   Earlier        the order, as 02 says it
--   ways met r m   how many lists of m part numbers up to r there are; where r has not been met, of those that have it
--   tail, rank     such a list by its place in dictionary order, and back
--   split, join    between a number and the part numbers
-- Assumes nothing.
use Rattle.std.specs.Prelude.{◌≡◌, Bool, true, false, List, [], ◌∷◌, ℕ, zero, suc, ◌+◌, ◌*◌, ◌-◌, ◌/◌, ◌%◌, ◌^◌, ◌<◌, max, ltb, length}
use Rattle.numbers.specs.Pick.{pick}
use Rattle.numbers.specs.Power.{root_of}

unfoldable pub largest : List ℕ → ℕ
largest [] = 0
largest (x ∷ xs) = max x (largest xs)

-- the first part is the most significant; of lists of one length
pub data Dictionary : List ℕ → List ℕ → Type 0 where
  less : {x y : ℕ} {xs ys : List ℕ} → x < y → Dictionary (x ∷ xs) (y ∷ ys)
  same : {x : ℕ} {xs ys : List ℕ} → Dictionary xs ys → Dictionary (x ∷ xs) (x ∷ ys)

pub data Earlier (xs ys : List ℕ) : Type 0 where
  lower : largest xs < largest ys → Earlier xs ys
  within : largest xs ≡ largest ys → Dictionary xs ys → Earlier xs ys

-- one that starts with a number below r has still to meet r, unless it is met; one that starts with r has met it
unfoldable pub ways : Bool → ℕ → ℕ → ℕ
ways true r zero = 1
ways false r zero = 0
ways met r (suc m) = r * ways met r m + ways true r m

unfoldable pub tail : Bool → ℕ → ℕ → ℕ → List ℕ
tail met r zero d = []
tail met r (suc m) d =
    pick (ltb d (r * ways met r m)) (d / ways met r m ∷ tail met r m (d % ways met r m)) (r ∷ tail true r m (d - r * ways met r m))

unfoldable pub rank : Bool → ℕ → List ℕ → ℕ
rank met r [] = 0
rank met r (x ∷ xs) = pick (ltb x r) (x * ways met r (length xs) + rank met r xs) (r * ways met r (length xs) + rank true r xs)

-- r^t tuples have a lower largest number than r
unfoldable pub split : ℕ → ℕ → List ℕ
split t n = tail false (root_of t n) t (n - root_of t n ^ t)

unfoldable pub join : List ℕ → ℕ
join xs = largest xs ^ length xs + rank false (largest xs) xs
