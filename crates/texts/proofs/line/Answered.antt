-- What is known of a reading and of a line that was read, by the answer.
--   readable_not, within_back       an unreadable line has no numbers; those within the room are the line's
--   line_within                     a line of numbers lies in the text
--   ReadNumbers, read_numbers       of a line that was read: these numbers stand in it and at the front
--   read_within, read_front         they are within the room, and those that are read there
--   read_unreadable                 of an unreadable line: nothing has changed
-- Assumes nothing.
use mathlib.Core.Path.{◌≡◌, refl, sym, ap, ◌∙◌}
use mathlib.Core.Bool.{Bool, true, false, cond}
use mathlib.Core.List.{List, [], ◌∷◌, ◌++◌}
use Rattle.std.specs.Prelude.{Option, Some, None, option_map}
use Prim.Native.Nat.{ℕ, ◌+◌, ◌≤◌, ◌<◌}
use native.Mathlib.Omega.{arith}
use lib.Dec.{eqb, leb}
use lib.ListN.{length, take, drop, length-drop}
use lib.Seq.{take-append_seam}
use borrow.Author.Tests.{leb-true, le-leb}
use Rattle.texts.specs.Line.{Reading, numbers, unreadable, ended, line_numbers, up_to, line_by, line_at, within, answer, stored, ReadLine}
use Rattle.texts.specs.declared.line.Line.{Line}

pub readable_not : {ns : List ℕ} {next : ℕ} → unreadable ≡ numbers ns next → ⊥
readable_not e = let z : ◌≡◌ {A = ℕ} 0 1 = cc in omega arith

pub within_back : (room : ℕ) (x : Reading) {ns : List ℕ} {next : ℕ} → within room x ≡ numbers ns next → (x ≡ numbers ns next) × (length ns ≤ room)
within_back room (numbers ms end) {ns} {next} e = by (leb (length ms) room) refl e
  where
    by : (q : Bool) → leb (length ms) room ≡ q → cond q (numbers ms end) unreadable ≡ numbers ns next → (numbers ms end ≡ numbers ns next) × (length ns ≤ room)
    by true t f = let same : ms ≡ ns = cc in (f, rw same at (leb-true (length ms) room t))
    by false t f = absurd (readable_not f)
within_back room unreadable e = absurd (readable_not e)

pub within_room : (ns : List ℕ) (next : ℕ) {room : ℕ} → length ns ≤ room → within room (numbers ns next) ≡ numbers ns next
within_room ns next {room} l = rw (le-leb (length ns) room l)

-- ---- a line lies in the text
ended_within : (bs : List ℕ) {line : List ℕ} → ended bs ≡ Some line → length line < length bs
unfolding ended
ended_within [] e = cc
ended_within (b ∷ bs) {line} e = by (eqb b 10) (ended bs) e (λ l t. ended_within bs t)
  where
    by : (q : Bool) (o : Option (List ℕ)) → cond q (Some []) (option_map (b ∷◌) o) ≡ Some line → ((l : List ℕ) → o ≡ Some l → length l < length bs)
        → length line < length (b ∷ bs)
    by true o f r = let same : ◌≡◌ {A = List ℕ} [] line = cc in rw (← same) (omega arith)
    by false None f r = cc
    by false (Some l) f r = let same : b ∷ l ≡ line = cc in rw (← same) (omega (arith, r l refl))

pub line_within : (text : List ℕ) (at : ℕ) {ns : List ℕ} {next : ℕ} → line_at text at ≡ numbers ns next → (at < next) × (next ≤ length text)
unfolding line_at
line_within text at {ns} {next} e = by (ended (drop at text)) refl e
  where
    up_to_lem : (line : List ℕ) → length line < length (drop at text) → (o : Option (List ℕ)) → up_to (at + length line + 1) o ≡ numbers ns next
        → (at < next) × (next ≤ length text)
    up_to_lem line l None f = absurd (readable_not f)
    up_to_lem line l (Some ms) f = let stop : at + length line + 1 ≡ next = cc in omega (arith, length-drop at text)

    by : (o : Option (List ℕ)) → ended (drop at text) ≡ o → line_by at o ≡ numbers ns next → (at < next) × (next ≤ length text)
    by None t f = absurd (readable_not f)
    by (Some line) t f = up_to_lem line (ended_within (drop at text) t) (line_numbers line) f

-- ---- by the answer
front : (ns old : List ℕ) {last : List ℕ} {count : ℕ} → last ≡ ns ++ drop count old → length ns ≡ count → take count last ≡ ns
front ns old e s = rw (e, ← s) (take-append_seam ns (drop (length ns) old))

pub record ReadNumbers (text : List ℕ) (at : ℕ) (old last : List ℕ) (l : Line) : Type 0 where
  pub ns : List ℕ
  pub is : line_at text at ≡ numbers ns l.next
  pub size : length ns ≡ l.count
  pub room : l.count ≤ length old
  pub leaves : last ≡ ns ++ drop l.count old

module _ {text : List ℕ} {at : ℕ} {old last : List ℕ} {r : Option Line} (k : ReadLine text at old last r) where
  pub read_numbers : {l : Line} → r ≡ Some l → ReadNumbers text at old last l
  read_numbers {l} e = by (within (length old) (line_at text at)) refl (sym k.answers ∙ e) k.leaves
    where
      by : (x : Reading) → within (length old) (line_at text at) ≡ x → answer x ≡ Some l → last ≡ stored old x → ReadNumbers text at old last l
      by (numbers ns end) t f s =
          let same : record { count = length ns; next = end } ≡ l = cc in
          let size : length ns ≡ l.count = ap (λ (m : Line). m.count) same in
          let there : end ≡ l.next = ap (λ (m : Line). m.next) same in
          let b = within_back (length old) (line_at text at) t in
          record { ns = ns; is = b.0 ∙ ap (numbers ns) there; size = size; room = rw size at b.1; leaves = rw size at s }
      by unreadable t f s = cc

  module _ {l : Line} (e : r ≡ Some l) where
    pub read_within : within (length old) (line_at text at) ≡ numbers (read_numbers e).ns l.next
    read_within =
        let n = read_numbers e in
        ap (within (length old)) n.is ∙ within_room n.ns l.next (omega (arith, n.size, n.room))

    pub read_front : take l.count last ≡ (read_numbers e).ns
    read_front = let n = read_numbers e in front n.ns old n.leaves n.size

  pub read_unreadable : r ≡ None → (within (length old) (line_at text at) ≡ unreadable) × (last ≡ old)
  read_unreadable e = by (within (length old) (line_at text at)) refl (sym k.answers ∙ e) k.leaves
    where
      by : (x : Reading) → within (length old) (line_at text at) ≡ x → answer x ≡ None → last ≡ stored old x → (x ≡ unreadable) × (last ≡ old)
      by (numbers ns end) t f s = cc
      by unreadable t f s = (refl, s)
