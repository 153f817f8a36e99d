-- The kinds by name, as the code has them, and 01's words for them.
--   word_of_kind   the word of a kind
--   Reads          what a word is read as: "kind known (2)"
-- Assumes nothing.
use Rattle.std.specs.Prelude.{◌≡◌, ℕ, ◌≤◌, Result, MatchResult}
use Rattle.grammar.specs.declared.kind.Kind.{Kind}
use Rattle.grammar.specs.declared.kind.Kind.TheVariants.{Below, Nats, Pool, Shift, Or, Cons, Dep, Except, Fix, Again}
use Rattle.grammar.specs.declared.refusal.Refusal.{Refusal}
use Rattle.grammar.specs.declared.refusal.Refusal.TheVariants.{Kind as NoKind}

abbrev pub word_of_kind : Kind → ℕ
word_of_kind Below = 0
word_of_kind Nats = 1
word_of_kind Pool = 2
word_of_kind Shift = 3
word_of_kind Or = 4
word_of_kind Cons = 5
word_of_kind Dep = 6
word_of_kind Except = 7
word_of_kind Fix = 8
word_of_kind Again = 9

-- the kind with this word, or refusal 2 for a word past those of the kinds
abbrev pub Reads : ℕ → Result Kind Refusal → Type 0
Reads word r = MatchResult r (λ k. word_of_kind k ≡ word) (λ e. (e ≡ NoKind) × (10 ≤ word))
