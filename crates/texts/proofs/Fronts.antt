-- A list over the front of another: new ++ drop (length new) old.
--   front_more, front_all   put there one by one
--   front_length            the length stays
-- Assumes nothing.
use mathlib.Core.Path.{◌≡◌}
use mathlib.Core.List.{List, ◌++◌}
use Prim.Native.Nat.{ℕ, suc, ◌+◌, ◌≤◌, ◌<◌}
use native.Mathlib.Numerals.{add-one}
use native.Mathlib.Omega.{arith}
use lib.ListN.{length, get_or, take, drop, set, length-append, length-take, length-drop}
use lib.Seq.{drop-cons, take-suc, take_all, set_at, append_snoc, length-take-le}

module _ (new old : List ℕ) where
  pub front_more : (k v : ℕ) → k < length new → k < length old → v ≡ get_or new k 0 → set (take k new ++ drop k old) k v ≡ take (k + 1) new ++ drop (k + 1) old
  front_more k v h l e =
      rw (add-one, drop-cons old k 0 l, take-suc new k 0 h, append_snoc, e)
      (set_at (take k new) (get_or old k 0) (drop (suc k) old) (get_or new k 0) k (length-take-le k new (omega arith)))

  pub front_length : (k : ℕ) → k ≤ length new → k ≤ length old → length (take k new ++ drop k old) ≡ length old
  front_length k h l = simp (length-append, length-take, length-drop) (omega arith)

  pub front_all : (k : ℕ) → k ≡ length new → take k new ++ drop k old ≡ new ++ drop (length new) old
  front_all k e = rw (e, take_all (length new) new (omega arith))
