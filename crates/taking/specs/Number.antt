-- What a visit has read, in one word (`taking::number`): below 2^63 a number; 2^63, a number past the limit; and above it, why nothing is read.
--   exactly   a number that is known exactly
--   word      the word of what is read
--   why       the refusal that says why nothing is read; `full` says whether the row ends where the case may have no more cells
--   Says      what a word says, read back
-- Assumes nothing.
use Rattle.std.specs.Prelude.{◌≡◌, Bool, ℕ, ◌+◌, ◌^◌, ◌<◌, Option, Some, None, Result, Ok, Err}
use Rattle.numbers.specs.Pick.{pick}
use Rattle.numbers.specs.Joined.{word_of}
use Rattle.grammar.specs.declared.refusal.Refusal.{Refusal}
use Rattle.grammar.specs.declared.refusal.Refusal.TheVariants as Refusals
use Rattle.taking.specs.Took.{why_of}
use Rattle.taking.specs.declared.number.Unread.{Unread}
use Rattle.taking.specs.declared.number.Unread.TheVariants.{TooDeep, NotACase, RowEnds}

abbrev pub unread : Unread → ℕ
unread TooDeep = 2 ^ 63 + 1
unread NotACase = 2 ^ 63 + 2
unread RowEnds = 2 ^ 63 + 3

abbrev pub exactly : Result ℕ Unread → Result (Option ℕ) Unread
exactly (Ok n) = Ok (Some n)
exactly (Err u) = Err u

abbrev pub word : Result (Option ℕ) Unread → ℕ
word (Ok n) = word_of n
word (Err u) = unread u

abbrev pub why : Unread → Bool → Refusal
why TooDeep full = Refusals.TooDeep
why NotACase full = Refusals.NotACase
why RowEnds full = pick full Refusals.NoRoom Refusals.NotACase

abbrev pub Says : Result (Option ℕ) Unread → ℕ → Type 0
Says (Ok (Some n)) w = (w ≡ n) × (w < 2 ^ 63)
Says (Ok None) w = w ≡ 2 ^ 63
Says (Err u) w = (2 ^ 63 < w) × ((full : Bool) → why_of full w ≡ why u full)
