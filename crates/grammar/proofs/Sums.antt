-- The sizes of a row's parts: two of them, and the seconds of a dep in one pass.
--   pair_row   the row of or and of cons
--   Tally      what a pass over nodes cs shows of them: f of them are finite, with the sum s as far as it is measured
--   not_lower  the row of seconds that are not all lower
--   Passing    the pass over the first i words of a dep, all of them lower nodes
--   turn_..    a turn of it; end-.. the row that it ends in
-- Assumes nothing.
use Rattle.grammar.specs.declared.entry.Entry.{Entry}
use mathlib.Core.Path.{◌≡◌, refl, sym}
use mathlib.Core.Bool.{Bool, true, false, not, ◌&&◌, false≢true}
use mathlib.Core.List.{List, [], ◌∷◌, ◌++◌}
use Prim.Native.Nat.{ℕ, ◌+◌, ◌^◌, ◌≤◌, ◌<◌}
use native.Mathlib.Numerals.{add-one}
use native.Mathlib.Omega.{arith}
use lib.ListN.{length, get_or, take, length-take, length-append}
use lib.Dec.{ltb, leb, eqb}
use lib.Seq.{take-suc, take_all}
use borrow.Author.Tests.{eqb-true, eqb-false, ltb-true, lt-ltb, le-leb, lt-leb, leb-false}
use Rattle.numbers.specs.Size.{Size, finite, endless, plus, measured}
use Rattle.numbers.specs.Pick.{pick}
use Rattle.std.specs.Option.{ok_or}
use Rattle.std.specs.Prelude.{Option, Some, None}
use Rattle.numbers.proofs.size.SizeWords.{sized_finite, sized_endless}
use Rattle.grammar.specs.Checks.{is_endless, all_lower, all_endless, all_finite, fits, total, row, asks}
use Rattle.lists.specs.Lists.{every}
use Rattle.grammar.specs.Kind.{before}
use Rattle.grammar.specs.kinds.Dep.{seconds_row}
use Rattle.grammar.specs.Plan.{size_in, size_word, coded}
use Rattle.grammar.specs.declared.refusal.Refusal.TheVariants.{Reference, UnsuitedPart, TooLarge}
use Rattle.grammar.specs.declared.refusal.Refusal.{Refusal}
use Rattle.std.specs.Prelude.{Result, Ok, Err}
use Rattle.numbers.proofs.Tests.{and_left}
use Rattle.lists.proofs.Runs.{every_at}

-- a size that is measured, and the last check of a row
pub measured_row : (s : Size) → ok_or (measured s) TooLarge ≡ coded (row (asks (fits s) TooLarge ∷ []) s)
unfolding measured coded row
measured_row (finite s) = by (leb s (2 ^ 62))
  where
    by : (q : Bool) → ok_or (pick q (Some s) None) TooLarge ≡ coded (row (asks q TooLarge ∷ []) (finite s))
    by true = refl
    by false = refl
measured_row endless = refl

-- the row of or and of cons, whose parts are lower: f is their sum or their product
pub pair_row : (f : Size → Size → Size) (z : ℕ → Size) (n a b : ℕ) {m : Option ℕ} {w : Result ℕ Refusal} → ltb a n ≡ true → ltb b n ≡ true
    → m ≡ measured (f (z a) (z b)) → w ≡ ok_or m TooLarge
    → let s = f (before z n a) (before z n b) in w ≡ coded (row (asks (ltb a n && ltb b n) Reference ∷ asks (fits s) TooLarge ∷ []) s)
unfolding row
pair_row f z n a b l k m w = rw (w, m, l, k) (measured_row (f (z a) (z b)))

-- ---- one node more
and_swap : (a b c : Bool) → (a && (b && c)) ≡ (b && (a && c))
and_swap true b c = refl
and_swap false true c = refl
and_swap false false c = refl

every_more : (test : ℕ → Bool) (cs : List ℕ) (c : ℕ) → every test (cs ++ (c ∷ [])) ≡ (test c && every test cs)
unfolding every
every_more test [] c = refl
every_more test (b ∷ bs) c = rw (every_more test bs c) (and_swap (test b) (test c) (every test bs))

plus_swap : (s t u : Size) → plus s (plus t u) ≡ plus t (plus s u)
unfolding plus
plus_swap (finite s) (finite t) (finite u) = let e : s + (t + u) ≡ t + (s + u) = omega arith in rw e
plus_swap (finite s) (finite t) endless = refl
plus_swap (finite s) endless u = refl
plus_swap endless (finite t) u = refl
plus_swap endless endless u = refl

total_more : (z : ℕ → Size) (cs : List ℕ) (c : ℕ) → total z (cs ++ (c ∷ [])) ≡ plus (z c) (total z cs)
unfolding total
total_more z [] c = refl
total_more z (b ∷ bs) c = rw (total_more z bs c) (plus_swap (z b) (z c) (total z bs))

-- a sum up to 2^62 grows by w; of one past it only that is kept, so it need not grow
module _ (s w : ℕ) where
  sum_more : (t : Size) → s ≤ 2 ^ 62 → measured t ≡ measured (finite s) → measured (plus (finite w) t) ≡ measured (finite (s + w))
  unfolding measured plus
  sum_more (finite t) l e = by (leb t (2 ^ 62)) (rw (le-leb s (2 ^ 62) l) at e)
    where
      by : (q : Bool) → pick q (Some t) None ≡ Some s → measured (finite (w + t)) ≡ measured (finite (s + w))
      by true g = let same : t ≡ s = cc in let e : w + t ≡ s + w = omega arith in rw e
      by false g = let no : ◌≡◌ {A = ℕ} 0 1 = cc in absurd (omega arith)
  sum_more endless l e = let f : Some (2 ^ 63) ≡ Some s = rw (le-leb s (2 ^ 62) l) at e in let g : 2 ^ 63 ≡ s = cc in absurd (omega arith)

  sum_past : (t : Size) → 2 ^ 62 < s → measured t ≡ measured (finite s) → measured (plus (finite w) t) ≡ measured (finite s)
  unfolding measured plus
  sum_past (finite t) l e = by (leb t (2 ^ 62)) refl (rw (lt-leb s (2 ^ 62) l) at e)
    where
      by : (q : Bool) → leb t (2 ^ 62) ≡ q → pick q (Some t) None ≡ None → measured (finite (w + t)) ≡ measured (finite s)
      by true f g = let no : ◌≡◌ {A = ℕ} 0 1 = cc in absurd (omega arith)
      by false f g = rw (lt-leb (w + t) (2 ^ 62) (omega (arith, leb-false t (2 ^ 62) f)), lt-leb s (2 ^ 62) l)
  sum_past endless l e = let f : Some (2 ^ 63) ≡ None = rw (lt-leb s (2 ^ 62) l) at e in let no : ◌≡◌ {A = ℕ} 0 1 = cc in absurd (omega arith)

-- ---- the pass over the seconds
pub record Tally (z : ℕ → Size) (cs : List ℕ) (f s : ℕ) : Type 0 where
  pub most : f ≤ length cs
  pub all : f ≡ length cs → (all_finite z cs ≡ true) × (measured (total z cs) ≡ measured (finite s))
  pub not_all : f < length cs → all_finite z cs ≡ false
  pub none : f ≡ 0 → all_endless z cs ≡ true
  pub not_none : 0 < f → all_endless z cs ≡ false

tally_none : {z : ℕ → Size} → Tally z [] 0 0
unfolding every total
tally_none = record {
  most = omega arith;
  all = λ e. (refl, refl);
  not_all = λ l. absurd (omega arith);
  none = λ e. refl;
  not_none = λ l. absurd (omega arith);
}

module _ {z : ℕ → Size} {cs : List ℕ} {f s : ℕ} (t : Tally z cs f s) (c : ℕ) where
  longer : length (cs ++ (c ∷ [])) ≡ length cs + 1
  longer = simp length-append

  tally_finite : {w r : ℕ} → z c ≡ finite w → (measured (total z cs) ≡ measured (finite s) → measured (plus (finite w) (total z cs)) ≡ measured (finite r))
      → Tally z (cs ++ (c ∷ [])) (f + 1) r
  tally_finite e sum = record {
    most = omega (arith, longer);
    all = λ k. let h = t.all (omega (arith, longer)) in (rw (every_more (λ b. not (is_endless (z b))) cs c, e) h.0, rw (total_more z cs c, e) (sum h.1));
    not_all = λ k. rw (every_more (λ b. not (is_endless (z b))) cs c, e) (t.not_all (omega (arith, longer)));
    none = λ k. absurd (omega arith);
    not_none = λ k. rw (every_more (λ b. is_endless (z b)) cs c, e);
  }

  tally_endless : z c ≡ endless → Tally z (cs ++ (c ∷ [])) f s
  tally_endless e = record {
    most = omega (arith, longer);
    all = λ k. absurd (omega (arith, longer));
    not_all = λ k. rw (every_more (λ b. not (is_endless (z b))) cs c, e);
    none = λ k. rw (every_more (λ b. is_endless (z b)) cs c, e) (t.none k);
    not_none = λ k. rw (every_more (λ b. is_endless (z b)) cs c, e) (t.not_none k);
  }

endless_total : (z : ℕ → Size) (cs : List ℕ) → all_endless z cs ≡ true → all_finite z cs ≡ false → total z cs ≡ endless
unfolding total every plus
endless_total z [] e f = absurd (false≢true (sym f))
endless_total z (c ∷ cs) e f = by (z c) (and_left (is_endless (z c)) (all_endless z cs) e)
  where
    by : (s : Size) → is_endless s ≡ true → plus s (total z cs) ≡ endless
    by (finite s) g = absurd (false≢true g)
    by endless g = refl

module _ (n : ℕ) {z : ℕ → Size} {cs : List ℕ} {f s : ℕ} (low : all_lower n cs ≡ true) (t : Tally z cs f s) where
  tally_all : f ≡ length cs → ok_or (measured (finite s)) TooLarge ≡ coded (seconds_row n z cs)
  unfolding row
  tally_all e = rw (← (t.all e).1, low, (t.all e).0) (measured_row (total z cs))

  module _ (l : f < length cs) where
    tally_no_finite : f ≡ 0 → Ok (2 ^ 63) ≡ coded (seconds_row n z cs)
    unfolding row coded
    tally_no_finite e = rw (low, t.not_all l, t.none e, endless_total z cs (t.none e) (t.not_all l))

    tally_mixed : 0 < f → Err UnsuitedPart ≡ coded (seconds_row n z cs)
    unfolding row coded
    tally_mixed k = rw (low, t.not_all l, t.not_none k)

-- ---- the same over the words of a dep, by the facts that the code has
-- "each of those m words a lower node"
pub not_lower : (n : ℕ) (z : ℕ → Size) (cs : List ℕ) → all_lower n cs ≡ false → Err Reference ≡ coded (seconds_row n z cs)
unfolding row coded
not_lower n z cs e = rw e

pub record Passing (plan : List Entry) (n : ℕ) (ws : List ℕ) (f s i : ℕ) : Type 0 where
  pub le : i ≤ length ws
  pub lower : all_lower n ws ≡ true
  pub is : Tally (before (size_in plan) n) (take i ws) f s

pub turn_none : {plan : List Entry} {n : ℕ} {ws : List ℕ} → all_lower n ws ≡ true → Passing plan n ws 0 0 0
turn_none e = record { le = omega arith; lower = e; is = tally_none }

module _ {plan : List Entry} {n : ℕ} {ws : List ℕ} {f s i : ℕ} (r : Passing plan n ws f s i) where
  pub turn_few : f ≤ i
  turn_few = omega (arith, r.is.most, length-take i ws)

  module _ (l : i < length ws) where
    pub turn_lower : get_or ws i 0 < n
    turn_lower = ltb-true (get_or ws i 0) n (every_at (λ c. ltb c n) ws i l r.lower)

    more : {g q : ℕ} → Tally (before (size_in plan) n) (take i ws ++ (get_or ws i 0 ∷ [])) g q → Passing plan n ws g q (i + 1)
    more t = record { le = omega arith; lower = r.lower; is = rw (add-one, take-suc ws i 0 l) t }

    pub turn_endless : 2 ^ 63 ≤ size_word plan (get_or ws i 0) → Passing plan n ws f s (i + 1)
    turn_endless h = more (tally_endless r.is _ (rw (lt-ltb _ n turn_lower) (sized_endless (size_word plan (get_or ws i 0)) h)))

    module _ (h : size_word plan (get_or ws i 0) < 2 ^ 63) where
      sized : before (size_in plan) n (get_or ws i 0) ≡ finite (size_word plan (get_or ws i 0))
      sized = rw (lt-ltb _ n turn_lower) (sized_finite (size_word plan (get_or ws i 0)) h)

      pub turn_adds : s ≤ 2 ^ 62 → Passing plan n ws (f + 1) (s + size_word plan (get_or ws i 0)) (i + 1)
      turn_adds k = more (tally_finite r.is _ sized (sum_more s (size_word plan (get_or ws i 0)) _ k))

      pub turn_past : 2 ^ 62 < s → Passing plan n ws (f + 1) s (i + 1)
      turn_past k = more (tally_finite r.is _ sized (sum_past s (size_word plan (get_or ws i 0)) _ k))

  module _ (l : length ws ≤ i) where
    whole : Tally (before (size_in plan) n) ws f s
    whole = rw (take_all i ws l) at r.is

    pub end_sum : f ≡ length ws → leb s (2 ^ 62) ≡ true → Ok s ≡ coded (seconds_row n (before (size_in plan) n) ws)
    unfolding measured
    end_sum e h = rw h at (tally_all n r.lower whole e)

    pub end_past : f ≡ length ws → leb s (2 ^ 62) ≡ false → Err TooLarge ≡ coded (seconds_row n (before (size_in plan) n) ws)
    unfolding measured
    end_past e h = rw h at (tally_all n r.lower whole e)

    module _ (k : f ≡ length ws → ⊥) where
      not_all : f < length ws
      not_all = omega (arith, whole.most)

      pub end_endless : eqb f 0 ≡ true → Ok (2 ^ 63) ≡ coded (seconds_row n (before (size_in plan) n) ws)
      end_endless e = tally_no_finite n r.lower whole not_all (eqb-true f 0 e)

      pub end_mixed : eqb f 0 ≡ false → Err UnsuitedPart ≡ coded (seconds_row n (before (size_in plan) n) ws)
      end_mixed e = let h : f ≡ 0 → ⊥ = eqb-false f 0 e in tally_mixed n r.lower whole not_all (omega arith)

pub ruleset ends = (not_lower, turn_few, end_sum, end_past, end_endless, end_mixed)
