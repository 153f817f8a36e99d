-- What a line prints, by its word.
--   line_unknown, line_call     where no table is known, and where one is
--   first, next, last           the call that a word names: the first of those that are left, one of the others, or none
-- Assumes nothing.
use mathlib.Core.Path.{◌≡◌, refl, ◌∙◌}
use mathlib.Core.Bool.{Bool, true, false}
use mathlib.Core.List.{List, [], ◌∷◌}
use Prim.Native.Nat.{ℕ, ◌-◌}
use lib.Dec.{eqb}
use lib.ListN.{length, take, drop}
use Rattle.std.specs.Prelude.{Some, None}
use Rattle.std.specs.Cmp.Lexicographic.{pointwise}
use Rattle.lists.proofs.Fills.{part_old}
use Rattle.texts.specs.Said.{unreadable_text}
use Rattle.asking.specs.Same.{same}
use Rattle.asking.proofs.Comparing.{pointwise_same}
use Rattle.calling.specs.Line.{word_size}
use Rattle.calling.specs.Calls.{Entry, entry, calls, chosen, line_text}
use Rattle.calling.specs.Desk.{known_of}
use Rattle.calling.specs.declared.sizes.Sizes.{Sizes}
use Rattle.calling.specs.declared.desk.Desk.{Desk}

-- ---- a whole line
module _ (desk : Desk) (line : List ℕ) where
  pub line_unknown : desk.known ≡ None → unreadable_text ≡ line_text (known_of desk) line
  unfolding line_text known_of
  line_unknown f = rw f

  pub line_call : {s : Sizes} → desk.known ≡ Some s → {size : ℕ} → size ≡ word_size line
      → chosen (take size line) (calls (take s.table desk.table) (take s.pool desk.pool) (take (length line - size) (drop size line)))
      ≡ line_text (known_of desk) line
  unfolding line_text known_of
  line_call f {size} e = rw (f, part_old size line, e)

-- ---- the call that a word names
module _ (word name : List ℕ) {lit : List ℕ} (l : lit ≡ name) {b : Bool} (is : b ≡ pointwise eqb word lit) where
  named : b ≡ same word name
  named = is ∙ rw l (pointwise_same word name)

  pub first : b ≡ true → {text : List ℕ} (es : List Entry) → text ≡ chosen word (entry name text ∷ es)
  unfolding chosen
  first y es = rw (← named, y)

  pub next : b ≡ false → (text : List ℕ) (es : List Entry) {x : List ℕ} → x ≡ chosen word es → x ≡ chosen word (entry name text ∷ es)
  unfolding chosen
  next n text es e = rw (← named, n) e

pub last : (word : List ℕ) → unreadable_text ≡ chosen word []
unfolding chosen
last word = refl
