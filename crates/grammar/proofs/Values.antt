-- 01's values tell answers apart.
--   refusal_of     the refusal with a number, where there is one
--   by_refusal    an answer by its refusal number: done at 0, else refused
--   refused_back  a refusal's number gives it back
--   answer_one    two verdicts with the same values are the same verdict
-- Assumes nothing.
use mathlib.Core.Path.{◌≡◌, refl, sym, ap, ◌∙◌}
use mathlib.Core.List.{List, [], ◌∷◌}
use Prim.Native.Nat.{ℕ}
use lib.Dec.{eqb}
use lib.ListN.{get_or}
use Rattle.numbers.specs.Pick.{pick}
use Rattle.grammar.specs.Refusals.{number_of, Verdict, accepted, refused}
use Rattle.grammar.specs.Verdict.{Answer, answer}
use Rattle.grammar.specs.declared.refusal.Refusal.{Refusal}
use Rattle.grammar.specs.declared.refusal.Refusal.TheVariants.{Length, Kind, SpareWord, Reference, Range, Repeat, UnsuitedPart, TooLarge}
use Rattle.grammar.specs.declared.refusal.Refusal.TheVariants.{Unguarded, ExceptOnCycle, NoSuchStart, NoSuchNumber}
use Rattle.grammar.specs.declared.refusal.Refusal.TheVariants.{TooDeep, NoRoom, NotACase, NumberTooLarge}
use Rattle.std.specs.Prelude.{Ok, Err}

-- by their numbers, from 1 on; nothing has number 0
abbrev refusals : List Refusal
refusals =
    Length ∷ Length ∷ Kind ∷ SpareWord ∷ Reference ∷ Range ∷ Repeat ∷ UnsuitedPart ∷ TooLarge ∷ Unguarded ∷ ExceptOnCycle ∷ NoSuchStart ∷ NoSuchNumber
    ∷ TooDeep ∷ NoRoom ∷ NotACase ∷ NumberTooLarge ∷ []

abbrev pub refusal_of : ℕ → Refusal
refusal_of n = get_or refusals n Length

-- d where it is 0, else f of the refusal
abbrev pub by_refusal : {A : Type 0} → ℕ → A → (Refusal → A) → A
by_refusal n d f = pick (eqb n 0) d (f (refusal_of n))

pub refused_back : {A : Type 0} (d : A) (f : Refusal → A) (r : Refusal) → by_refusal (number_of r) d f ≡ f r
unfolding number_of
refused_back d f Length = refl
refused_back d f Kind = refl
refused_back d f SpareWord = refl
refused_back d f Reference = refl
refused_back d f Range = refl
refused_back d f Repeat = refl
refused_back d f UnsuitedPart = refl
refused_back d f TooLarge = refl
refused_back d f Unguarded = refl
refused_back d f ExceptOnCycle = refl
refused_back d f NoSuchStart = refl
refused_back d f NoSuchNumber = refl
refused_back d f TooDeep = refl
refused_back d f NoRoom = refl
refused_back d f NotACase = refl
refused_back d f NumberTooLarge = refl

verdict_of : Answer → Verdict
verdict_of a = by_refusal a.refusal accepted (λ r. refused r a.node)

verdict_back : (v : Verdict) → verdict_of (answer v) ≡ v
unfolding answer verdict_of
verdict_back (Ok u) = refl
verdict_back (Err e) = refused_back accepted (λ r. refused r e.node) e.refusal

pub answer_one : (v w : Verdict) → answer v ≡ answer w → v ≡ w
answer_one v w e = sym (verdict_back v) ∙ ap verdict_of e ∙ verdict_back w
