-- A fill of a buffer, and of the part that it left.
--   length_over, over_long, over_front, over_back, over_is, over_append   a list over a buffer's front
--   part_old, part_rest   the part from a place on, and what lies after it
--   then           one list over the front, and then another over what is left, is their sum over the front
--   nothing        a fill of no words
--   same, within   the buffer keeps its length, and the count is within it
-- Assumes nothing.
use mathlib.Core.Path.{◌≡◌, refl, sym, ap, ◌∙◌}
use mathlib.Core.List.{List, [], ◌∷◌, ◌++◌, append-nil}
use Prim.Native.Nat.{ℕ, suc, ◌+◌, ◌-◌, ◌≤◌, min}
use native.Mathlib.Nat.{not-suc-le-zero, le_of_suc-le-suc, zero-min, min-zero, suc-min-suc}
use native.Mathlib.Omega.{arith}
use lib.ListN.{length, take, drop, drop_of_length-le, length-append, length-drop}
use lib.Seq.{take_all, take-nil}
use Rattle.lists.specs.Filled.{over, Filled}

over_none : (new : List ℕ) → over new [] ≡ []
unfolding over
over_none [] = refl
over_none (x ∷ new) = refl

pub length_over : (new old : List ℕ) → length (over new old) ≡ length old
unfolding over
length_over [] old = refl
length_over (x ∷ new) [] = refl
length_over (x ∷ new) (y ∷ old) = ap suc (length_over new old)

pub over_long : (new old : List ℕ) {last : List ℕ} → last ≡ over new old → length last ≡ length old
over_long new old e = ap length e ∙ length_over new old

-- a list over the front of a buffer that is long enough
pub over_front : (cs old : List ℕ) → length cs ≤ length old → take (length cs) (over cs old) ≡ cs
unfolding over
over_front [] old l = refl
over_front (c ∷ cs) [] l = absurd (not-suc-le-zero l)
over_front (c ∷ cs) (o ∷ old) l = ap (λ (xs : List ℕ). c ∷ xs) (over_front cs old (le_of_suc-le-suc l))

-- what lies behind it keeps its words
pub over_back : (cs old : List ℕ) → drop (length cs) (over cs old) ≡ drop (length cs) old
unfolding over
over_back [] old = refl
over_back (c ∷ cs) [] = refl
over_back (c ∷ cs) (o ∷ old) = over_back cs old

-- the same, by the lengths
pub over_is : (new old : List ℕ) → over new old ≡ take (length old) new ++ drop (length new) old
unfolding over
over_is [] old = rw take-nil
over_is (x ∷ new) [] = refl
over_is (x ∷ new) (y ∷ old) = ap (λ (l : List ℕ). x ∷ l) (over_is new old)

-- one list over the front, and then another over what is left, is their sum over the front
pub over_append : (a b old : List ℕ)
    → over (a ++ b) old ≡ take (min (length a) (length old)) (over a old) ++ over b (drop (min (length a) (length old)) (over a old))
unfolding over
over_append [] b old = rw zero-min
over_append (x ∷ a) b [] = simp (min-zero, over_none)
over_append (x ∷ a) b (y ∷ old) = rw suc-min-suc (ap (λ (l : List ℕ). x ∷ l) (over_append a b old))

-- the part from k on, which is what `&mut s[k..]` lends
pub part_old : (k : ℕ) (l : List ℕ) → take (length l - k) (drop k l) ≡ drop k l
part_old k l = take_all (length l - k) (drop k l) (simp length-drop (omega arith))

-- nothing lies after it
pub part_rest : (k : ℕ) (l : List ℕ) → drop (length l - k) (drop k l) ≡ []
part_rest k l = drop_of_length-le (drop k l) {i = length l - k} (simp length-drop (omega arith))

-- ---- what holds after a fill
module _ {new old last : List ℕ} {r : ℕ} (f : Filled new old last r) where
  pub same : length last ≡ length old
  same = ap length f.holds ∙ length_over new old

  pub within : r ≤ length old
  within = omega (arith, f.count)

-- nothing to show
pub nothing : (old : List ℕ) → Filled [] old old 0
unfolding over
nothing old = record { count = sym (zero-min (length old)); holds = refl }

-- a fill, and then a fill of the part that it left
pub then : {a b old mid part last : List ℕ} {k j : ℕ} → Filled a old mid k → Filled b part last j → part ≡ take (length mid - k) (drop k mid)
    → Filled (a ++ b) old (take k mid ++ (last ++ drop (length mid - k) (drop k mid))) (k + j)
then {a} {b} {old} {mid} {part} {last} {k} {j} f g e =
    let p : part ≡ drop k mid = e ∙ part_old k mid in
    record {
      count = omega (arith, f.count, g.count, same f, ap length p, length-drop k mid, length-append a b);
      holds = cc (f.count, f.holds, g.holds, part_rest k mid, append-nil last, over_append a b old);
    }
