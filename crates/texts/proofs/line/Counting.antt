-- The numbers of a line, counted one by one.
--   Counting    what is known at a place: the line's count is what was counted and that of its rest
--   count_none, count_empty, count_start, count_not, count_over, count_lf, count_other, count_space, count_full    the loop's steps
-- Assumes nothing.
use mathlib.Core.Path.{◌≡◌, refl, sym, ap, ◌∙◌}
use mathlib.Core.Bool.{Bool, true, false, cond}
use mathlib.Core.List.{List}
use Prim.Native.Nat.{ℕ, suc, ◌+◌, ◌≤◌, ◌<◌}
use native.Mathlib.Omega.{arith}
use lib.Dec.{leb}
use lib.ListN.{length, get_or}
use borrow.Author.Tests.{le-leb, lt-leb}
use Rattle.texts.specs.Numeral.{numeral_at}
use Rattle.texts.specs.Line.{Reading, numbers, unreadable, line_at, within, answer}
use Rattle.texts.specs.declared.numeral.Numeral.{Numeral}
use Rattle.texts.specs.declared.line.Line.{Line}
use Rattle.std.specs.Prelude.{Option, Some, None}
use Rattle.texts.proofs.line.Rest.{rest_at, onto, HasSome, rest_some, line_over, line_empty, line_rest, rest_not, rest_over, rest_lf, rest_space}
use Rattle.texts.proofs.line.Rest.{rest_other}

-- the count may not pass the room
abbrev limited : ℕ → Option Line → Option Line
limited room (Some l) = cond (leb l.count room) (Some l) None
limited room None = None

-- a line's count, with so many more in front
abbrev plus : ℕ → Option Line → Option Line
plus k (Some l) = Some (record { count = k + l.count; next = l.next })
plus k None = None

within_limit : (room : ℕ) (x : Reading) → answer (within room x) ≡ limited room (answer x)
within_limit room (numbers ns next) = by (leb (length ns) room)
  where
    by : (q : Bool) → answer (cond q (numbers ns next) unreadable) ≡ cond q (Some (record { count = length ns; next = next })) None
    by true = refl
    by false = refl
within_limit room unreadable = refl

plus_none : (x : Option Line) → x ≡ plus 0 x
plus_none (Some l) = let z : l.count ≡ 0 + l.count = omega arith in ap (λ (k : ℕ). Some (record { count = k; next = l.next })) z
plus_none None = refl

plus_onto : (k v : ℕ) (x : Reading) → plus k (answer (onto v x)) ≡ plus (k + 1) (answer x)
plus_onto k v (numbers ns next) = let z : k + suc (length ns) ≡ k + 1 + length ns = omega arith in ap (λ (c : ℕ). Some (record { count = c; next = next })) z
plus_onto k v unreadable = refl

-- no room for one more
past_room : (room count : ℕ) (x : Reading) → room ≤ count → HasSome x → None ≡ limited room (plus count (answer x))
past_room room count (numbers ns next) l h = rw (lt-leb (count + length ns) room (omega arith))
past_room room count unreadable l h = refl

-- ---- before the loop
module _ (text : List ℕ) (at room : ℕ) where
  pub count_none : length text ≤ at → None ≡ answer (within room (line_at text at))
  count_none l = rw (line_over text at l)

  pub count_empty : at < length text → get_or text at 0 ≡ 10 → Some (record { count = 0; next = at + 1 }) ≡ answer (within room (line_at text at))
  count_empty l b = rw (line_empty text at l b, le-leb 0 room (omega arith))

-- ---- the loop
pub record Counting (text : List ℕ) (at room count i : ℕ) : Type 0 where
  pub is : answer (line_at text at) ≡ plus count (answer (rest_at text i))
  pub few : count ≤ room

pub count_start : {text : List ℕ} {at room : ℕ} → at < length text → (get_or text at 0 ≡ 10 → ⊥) → Counting text at room 0 at
count_start {text} {at} {room} l f = record { is = rw (line_rest text at l f) (plus_none (answer (rest_at text at))); few = omega arith }

module _ {text : List ℕ} {at room count i : ℕ} (s : Counting text at room count i) where
  -- what is answered is what the rest gives
  told : limited room (plus count (answer (rest_at text i))) ≡ answer (within room (line_at text at))
  told = sym (within_limit room (line_at text at) ∙ ap (limited room) s.is)

  ends : rest_at text i ≡ unreadable → None ≡ answer (within room (line_at text at))
  ends e = rw e at told

  pub count_full : room ≤ count → None ≡ answer (within room (line_at text at))
  count_full l = past_room room count (rest_at text i) l (rest_some text i) ∙ told

  module _ {r : Option Numeral} (a : r ≡ numeral_at text i) where
    pub count_not : r ≡ None → None ≡ answer (within room (line_at text at))
    count_not e = ends (rest_not text i (sym a ∙ e))

    module _ {m : Numeral} (g : r ≡ Some m) where
      pub count_over : length text ≤ m.end → None ≡ answer (within room (line_at text at))
      count_over l = ends (rest_over text i (sym a ∙ g) l)

      module _ (l : m.end < length text) where
        pub count_lf : count < room → get_or text m.end 0 ≡ 10 → Some (record { count = count + 1; next = m.end + 1 }) ≡ answer (within room (line_at text at))
        count_lf h b = rw (rest_lf text i (sym a ∙ g) l b, le-leb (count + 1) room (omega arith)) at told

        pub count_other : (get_or text m.end 0 ≡ 10 → ⊥) → (get_or text m.end 0 ≡ 32 → ⊥) → None ≡ answer (within room (line_at text at))
        count_other f h = ends (rest_other text i (sym a ∙ g) l f h)

        pub count_space : count < room → get_or text m.end 0 ≡ 32 → Counting text at room (count + 1) (m.end + 1)
        count_space h b =
            record { is = s.is ∙ rw (rest_space text i (sym a ∙ g) l b) (plus_onto count m.value (rest_at text (m.end + 1))); few = omega arith }
