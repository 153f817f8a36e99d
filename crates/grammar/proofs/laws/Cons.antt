-- The law of cons.
--   cons_law      its rule is lawful, and its size fits
--   cons_plain    it is no except
--   cons_lower    its steps lead to lower nodes
-- Assumes nothing.
use mathlib.Core.Path.{◌≡◌, refl, ap}
use mathlib.Core.Bool.{true}
use mathlib.Core.List.Memᴰ
use Prim.Native.Nat.{ℕ, ◌*◌, ◌^◌, ◌<◌}
use native.Mathlib.Omega.{arith}
use borrow.Author.Tests.{ltb-true, leb-true}
use Rattle.numbers.specs.Size.{Size, finite, endless, NotZero, times}
use Rattle.grammar.specs.Checks.{fits}
use Rattle.grammar.specs.Law.{Fit, flat, Lawful}
use Rattle.grammar.proofs.KindLaw.{fit_some, lower_both, KindLaw, Lower, Plain}
use native.Mathlib.Nat.{mul-le-mul}
use Rattle.numbers.specs.Cons
use Rattle.numbers.proofs.cons.SplitJoin as Conses
use Rattle.grammar.specs.kinds.Cons.{both, cons_rule, cons}
use Rattle.grammar.specs.Refusals.{number_of}

cons_rule_lem : (z : ℕ → Size) (count a b : ℕ) → a < count → b < count → NotZero (z a) → NotZero (z b) → Lawful z count (cons_rule (z a) (z b) a b)
unfolding cons_rule
cons_rule_lem z count a b la lb sa sb = record {
  writes = λ n h.
      let q = Cons.split (z a) (z b) n in
      let s = Conses.split_below (z a) (z b) n sa sb h in
      record { path = (q.first, s.0, (q.second, s.1, tt)); passes = refl; ends = Conses.join_split (z a) (z b) n };
  reads = λ w. let (x, hx, (y, hy, e)) = w in
      (Conses.join_below (z a) (z b) x y hx hy, ap (both a b) (Conses.split_join (z a) (z b) x y hx hy));
  names = (Memᴰ.head refl, λ m h. (Memᴰ.tail (Memᴰ.head refl), λ m' h'. tt));
  meets = tt;
  inside = (la, (lb, tt));
  among = λ p m. m;
  falls = λ n h.
      let q = Cons.split (z a) (z b) n in
      let l = rw (Conses.join_split (z a) (z b) n) at (Conses.join_least (z a) (z b) q.first q.second sa sb) in
      (flat (Memᴰ.head refl) l.0, (flat (Memᴰ.tail (Memᴰ.head refl)) l.1, tt));
}

fit_times : (s t : Size) → Fit s → Fit t → fits (times s t) ≡ true → Fit (times s t)
unfolding times
fit_times (finite s) (finite t) h k e = (omega (arith, mul-le-mul {n₁ = 1} {m₁ = 1} {n₂ = s} {m₂ = t} (omega arith) (omega arith)), leb-true (s * t) (2 ^ 62) e)
fit_times (finite s) endless h k e = tt
fit_times endless t h k e = tt

pub cons_law : KindLaw cons
unfolding number_of
cons_law = record {
  gives = λ v z. refl;
  sees = λ v z h. rw ((lower_both v h.0).0, (lower_both v h.0).1);
  lawful = λ v z r h.
      let (ea, eb) = lower_both v h.0 in
      let la = ltb-true v.a v.own ea in
      let lb = ltb-true v.b v.own eb in
      cons_rule_lem z v.nodes v.a v.b (omega (arith, r.node)) (omega (arith, r.node)) (fit_some (z v.a) (r.fit v.a la))
      (fit_some (z v.b) (r.fit v.b lb));
  fit = λ v z f h.
      let (ea, eb) = lower_both v h.0 in
      unfold cons_rule in fit_times (z v.a) (z v.b) (f v.a (ltb-true v.a v.own ea)) (f v.b (ltb-true v.b v.own eb))
      (rw (ea, eb) at h.1.0);
}

pub cons_lower : Lower cons
unfolding cons_rule
cons_lower v z h = let (ea, eb) = lower_both v h.0 in (ltb-true v.a v.own ea, (ltb-true v.b v.own eb, tt))

pub cons_plain : Plain cons
unfolding cons_rule
cons_plain a b p z = refl
