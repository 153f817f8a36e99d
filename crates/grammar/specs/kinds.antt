-- 01's table of kinds: a file a kind, and the kinds by their numbers.
--   kinds     the list
--   used_words the constant table of used words: a row of yes and no for each kind
--   unknown   of a word that no kind has
--   kind_in    the kind of a kind word
-- Assumes nothing.
pub mod Below
pub mod Nats
pub mod Pool
pub mod Shift
pub mod Or
pub mod Cons
pub mod Dep
pub mod Except
pub mod Fix
pub mod Again
use Rattle.std.specs.Prelude.{Bool, false, true, List, [], ◌∷◌, map, ℕ, get_or}
use Rattle.numbers.specs.Size.{finite}
use Rattle.grammar.specs.Checks.{asks}
use Rattle.grammar.specs.declared.refusal.Refusal.TheVariants.{Kind as NoKind}
use Rattle.grammar.specs.Rule.{fails}
use Rattle.grammar.specs.Kind.{Kind}
use Rattle.grammar.specs.kinds.Below.{below}
use Rattle.grammar.specs.kinds.Nats.{nats}
use Rattle.grammar.specs.kinds.Pool.{pool}
use Rattle.grammar.specs.kinds.Shift.{shift}
use Rattle.grammar.specs.kinds.Or.{or}
use Rattle.grammar.specs.kinds.Cons.{cons}
use Rattle.grammar.specs.kinds.Dep.{dep}
use Rattle.grammar.specs.kinds.Except.{except}
use Rattle.grammar.specs.kinds.Fix.{fix}
use Rattle.grammar.specs.kinds.Again.{again}

abbrev pub kinds : List Kind
kinds = below ∷ nats ∷ pool ∷ shift ∷ or ∷ cons ∷ dep ∷ except ∷ fix ∷ again ∷ []

-- "One constant table says which of a and b each kind uses"
abbrev pub used_words : List (List Bool)
used_words = map (λ k. k.uses_a ∷ k.uses_b ∷ []) kinds

-- "kind known (2)": of a kind that is not known nothing is spare, and its one check fails
abbrev pub unknown : Kind
unknown = record {
  uses_a = true;
  uses_b = true;
  checks = λ v z. asks false NoKind ∷ [];
  rule = λ a b p z. record { size = finite 0; items = λ n. []; tree = fails; steps = λ g. []; skips = false };
}

abbrev pub kind_in : ℕ → Kind
kind_in word = get_or kinds word unknown
