-- The kind words that are known.
--   past_unknown   a word past the kinds has no kind
-- Assumes nothing.
use mathlib.Core.Path.{◌≡◌}
use Prim.Native.Nat.{ℕ, ◌≤◌}
use lib.ListN.{length, get_or-eq_default}
use Rattle.grammar.specs.kinds.{kinds, unknown, kind_in}

pub past_unknown : (k : ℕ) → length kinds ≤ k → kind_in k ≡ unknown
past_unknown k l = get_or-eq_default kinds unknown l
