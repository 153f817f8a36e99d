-- The law of dep.
--   dep_law      its rule is lawful, and its size fits
--   dep_plain    it is no except
--   dep_lower    its steps lead to lower nodes
-- Assumes nothing.
use mathlib.Core.Path.{◌≡◌, refl, subst, ap}
use mathlib.Core.Bool.{Bool, true, not, ◌||◌, false≢true}
use mathlib.Core.List.{List, [], ◌∷◌}
use Prim.Native.Nat.{ℕ, zero, suc, ◌+◌, ◌≤◌, ◌<◌}
use native.Mathlib.Omega.{arith}
use lib.Dec.{ltb}
use lib.ListN.{length, get_or}
use borrow.Author.Tests.{ltb-true, leb-true}
use Rattle.numbers.specs.Size.{Size, finite, endless, Below, NotZero}
use Rattle.grammar.specs.Checks.{fits, is_endless}
use Rattle.grammar.specs.Law.{Fit, Under, flat, Lawful, Holds}
use Rattle.numbers.proofs.Tests.{and_left, and_right}
use Rattle.grammar.specs.Kind.{Node, before}
use Rattle.grammar.proofs.KindLaw.{fit_some, fit_plus, KindLaw, Lower, Plain}
use mathlib.Core.List.{Memᴰ}
use native.Mathlib.Nat.{le_refl, not-suc-le-zero, le_of_suc-le-suc}
use lib.ListN.{length-take, length-drop}
use Rattle.numbers.specs.Dep
use Rattle.numbers.specs.Dep.{Seconds}
use Rattle.numbers.specs.Cons.{pair}
use Rattle.numbers.proofs.dep.SplitJoin as Deps
use Rattle.grammar.specs.Checks.{few, seconds, total, all_lower, all_finite, all_endless}
use Rattle.lists.specs.Lists.{every}
use Rattle.grammar.specs.Checks.{count as count_of}
use Rattle.lists.proofs.Runs.{every_at}
use Rattle.grammar.specs.kinds.Dep.{counts, seconds_of, chosen, dep_rule, dep}
use Rattle.grammar.proofs.Seconds.{seconds_firsts, seconds_size, seconds_second}
use Rattle.grammar.specs.Refusals.{number_of}

few_count : (s : Size) → few s ≡ true → NotZero s → 0 < count_of s
few_count (finite m) e h = h
few_count endless e h = absurd (false≢true e)

few_finite : (s : Size) → few s ≡ true → finite (count_of s) ≡ s
few_finite (finite m) e = refl
few_finite endless e = absurd (false≢true e)

below_few : (s : Size) (x : ℕ) → few s ≡ true → Below x s → x < count_of s
below_few (finite m) x e h = h
below_few endless x e h = absurd (false≢true e)

pub mem_at : (xs : List ℕ) (x : ℕ) → x < length xs → Memᴰ (get_or xs x 0) xs
mem_at [] x l = absurd (not-suc-le-zero l)
mem_at (y ∷ ys) zero l = Memᴰ.head refl
mem_at (y ∷ ys) (suc x) l = Memᴰ.tail (mem_at ys x (le_of_suc-le-suc l))

pub lower_under : (count n : ℕ) (cs : List ℕ) → n ≤ count → all_lower n cs ≡ true → Under count cs
unfolding every
lower_under count n [] l e = tt
lower_under count n (c ∷ cs) l e =
    let h = ltb-true c n (and_left (ltb c n) (all_lower n cs) e) in
    (omega arith, lower_under count n cs l (and_right (ltb c n) (all_lower n cs) e))

-- cs are the seconds, as many as the first part has numbers
module _ (z : ℕ → Size) (count a : ℕ) (cs : List ℕ) (long : length cs ≡ count_of (z a)) (small : few (z a) ≡ true) (sa : NotZero (z a))
    (alike : (all_finite z cs || all_endless z cs) ≡ true) (some : (x : ℕ) → x < length cs → NotZero (z (get_or cs x 0))) where
  abbrev zs : Seconds
  zs = seconds_of z cs

  many : 0 < length cs
  many = rw long (few_count (z a) small sa)

  in_cs : (x : ℕ) → Below x (z a) → x < length cs
  in_cs x h = rw long (below_few (z a) x small h)

  is_first : (x : ℕ) → x < length cs → Below x (z a)
  is_first x h = subst (Below x) (few_finite (z a) small) (omega (arith, long))

  second_is : (x : ℕ) → x < length cs → Dep.second zs x ≡ z (get_or cs x 0)
  second_is x h = seconds_second z cs alike many x h

  dep_rule_lem : a < count → Under count cs → Lawful z count (dep_rule (total z cs) zs a cs)
  unfolding dep_rule
  dep_rule_lem la lc = record {
    writes = λ n h.
        let q = Dep.split zs n in
        let s = Deps.split_below zs n (rw (seconds_firsts z cs) many) (rw (seconds_size z cs alike many) h) in
        let k : q.first < length cs = rw (seconds_firsts z cs) at s.0 in
        record { path = (q.first, is_first q.first k, (q.second, rw (second_is q.first k) at s.1, tt)); passes = refl; ends = Deps.join_split zs n };
    reads = λ w.
        let k = in_cs w.0 w.1 in
        let ok : Deps.PairBelow zs (pair w.0 w.2.0) = (rw (seconds_firsts z cs) k, rw (second_is w.0 k) w.2.1) in
        (rw (seconds_size z cs alike many) at (Deps.join_below zs w.0 w.2.0 ok), ap (chosen a cs) (Deps.split_join zs w.0 w.2.0 ok));
    names = (Memᴰ.head refl, λ x h. (Memᴰ.tail (mem_at cs x (in_cs x h)), λ y g. tt));
    meets = tt;
    inside = (la, lc);
    among = λ p m. m;
    falls = λ n h.
        let q = Dep.split zs n in
        let s = Deps.split_below zs n (rw (seconds_firsts z cs) many) (rw (seconds_size z cs alike many) h) in
        let k : q.first < length cs = rw (seconds_firsts z cs) at s.0 in
        let least = Deps.join_least zs q.first q.second s.0
        (λ x m. let w : x < length cs = rw (seconds_firsts z cs) at m in rw (second_is x w) (some x w)) in
        let l = rw (Deps.join_split zs n) at least in
        (flat (Memᴰ.head refl) l.0, (flat (Memᴰ.tail (mem_at cs q.first k)) l.1, tt));
  }

-- ---- the sizes before the node are all that its seconds need
module _ (z : ℕ → Size) (n : ℕ) where
  head_before : (c : ℕ) (cs : List ℕ) → all_lower n (c ∷ cs) ≡ true → before z n c ≡ z c
  unfolding every
  head_before c cs e = rw (and_left (ltb c n) (all_lower n cs) e)

  tail_lower : (c : ℕ) (cs : List ℕ) → all_lower n (c ∷ cs) ≡ true → all_lower n cs ≡ true
  unfolding every
  tail_lower c cs e = and_right (ltb c n) (all_lower n cs) e

  pub every_before : (test : Size → Bool) (cs : List ℕ) → all_lower n cs ≡ true → every (λ c. test (before z n c)) cs ≡ every (λ c. test (z c)) cs
  unfolding every
  every_before test [] e = refl
  every_before test (c ∷ cs) e = rw (head_before c cs e, every_before test cs (tail_lower c cs e))

  pub total_before : (cs : List ℕ) → all_lower n cs ≡ true → total (before z n) cs ≡ total z cs
  unfolding total
  total_before [] e = refl
  total_before (c ∷ cs) e = rw (head_before c cs e, total_before cs (tail_lower c cs e))

  counts_before : (cs : List ℕ) → all_lower n cs ≡ true → counts (before z n) cs ≡ counts z cs
  counts_before [] e = refl
  counts_before (c ∷ cs) e = rw (head_before c cs e, counts_before cs (tail_lower c cs e))

  pub seconds_before : (cs : List ℕ) → all_lower n cs ≡ true → seconds_of (before z n) cs ≡ seconds_of z cs
  unfolding seconds_of
  seconds_before cs e = rw (every_before is_endless cs e, counts_before cs e)

  pub alike_before : (cs : List ℕ) → all_lower n cs ≡ true → (all_finite (before z n) cs || all_endless (before z n) cs) ≡ (all_finite z cs || all_endless z cs)
  alike_before cs e = rw (every_before (λ s. not (is_endless s)) cs e, every_before is_endless cs e)

-- of a list of sizes that fit, the sum fits where it is tested
fit_total : (z : ℕ → Size) (n : ℕ) → ((i : ℕ) → i < n → Fit (z i)) → (cs : List ℕ) → all_lower n cs ≡ true → 0 < length cs
    → fits (total z cs) ≡ true → Fit (total z cs)
unfolding every total
fit_total z n f [] e l u = absurd (not-suc-le-zero l)
fit_total z n f (c ∷ cs) e l u = fit_plus (z c) (total z cs) (f c (ltb-true c n (and_left (ltb c n) (all_lower n cs) e))) u

-- what a dep's checks show
pub record Shown (v : Node) (z : ℕ → Size) : Type 0 where
  pub low : ltb v.a v.own ≡ true
  pub small : few (z v.a) ≡ true
  pub inside : v.b + count_of (z v.a) ≤ length v.pool
  pub lower : all_lower v.own (seconds v.pool v.b (z v.a)) ≡ true
  pub alike : (all_finite z (seconds v.pool v.b (z v.a)) || all_endless z (seconds v.pool v.b (z v.a))) ≡ true
  pub fitting : fits (total z (seconds v.pool v.b (z v.a))) ≡ true

pub shows : (v : Node) (z : ℕ → Size) → Holds (dep.checks v (before z v.own)) → Shown v z
shows v z h =
    let cs = seconds v.pool v.b (z v.a) in
    let low : all_lower v.own cs ≡ true = rw h.0 at h.1.1.1.0 in
    record {
      low = h.0;
      small = rw h.0 at h.1.0;
      inside = leb-true (v.b + count_of (z v.a)) (length v.pool) (rw h.0 at h.1.1.0);
      lower = low;
      alike = rw (alike_before z v.own cs low) at (rw h.0 at h.1.1.1.1.0);
      fitting = rw (total_before z v.own cs low) at (rw h.0 at h.1.1.1.1.1.0);
    }

module _ (v : Node) (z : ℕ → Size) (f : (i : ℕ) → i < v.own → Fit (z i)) (d : Shown v z) where
  abbrev ds : List ℕ
  ds = seconds v.pool v.b (z v.a)

  seconds_long : length ds ≡ count_of (z v.a)
  seconds_long = simp (length-take, length-drop) (omega (arith, d.inside))

  first_some : NotZero (z v.a)
  first_some = fit_some (z v.a) (f v.a (ltb-true v.a v.own d.low))

  second_some : (x : ℕ) → x < length ds → NotZero (z (get_or ds x 0))
  second_some x l = fit_some (z (get_or ds x 0)) (f (get_or ds x 0) (ltb-true (get_or ds x 0) v.own (every_at (λ c. ltb c v.own) ds x l d.lower)))

  seconds_many : 0 < length ds
  seconds_many = rw seconds_long (few_count (z v.a) d.small first_some)

pub dep_law : KindLaw dep
unfolding number_of
dep_law = record {
  gives = λ v z. refl;
  sees = λ v z h.
      let cs = seconds v.pool v.b (z v.a) in
      let l = (shows v z h).lower in
      rw (h.0, total_before z v.own cs l, seconds_before z v.own cs l);
  lawful = λ v z r h.
      let d = shows v z h in
      let cs = seconds v.pool v.b (z v.a) in
      let la = ltb-true v.a v.own h.0 in
      dep_rule_lem z v.nodes v.a cs (seconds_long v z r.fit d) d.small (first_some v z r.fit d) d.alike (second_some v z r.fit d)
      (omega (arith, r.node)) (lower_under v.nodes v.own cs (omega (arith, r.node)) d.lower);
  fit = λ v z f h.
      let d = shows v z h in
      let cs = seconds v.pool v.b (z v.a) in
      unfold dep_rule in fit_total z v.own f cs d.lower (seconds_many v z f d) d.fitting;
}

pub dep_lower : Lower dep
unfolding dep_rule
dep_lower v z h = (ltb-true v.a v.own h.0, lower_under v.own v.own _ (le_refl v.own) h.1.1.1.0)

pub dep_plain : Plain dep
unfolding dep_rule
dep_plain a b p z = refl
