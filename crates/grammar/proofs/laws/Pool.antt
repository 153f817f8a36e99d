-- The law of pool.
--   pool_law      its rule is lawful, and its size fits
--   pool_plain    it is no except
--   pool_lower    it steps nowhere
--   pool_in       its words are within the pool; pool_at its word at a number
-- Assumes nothing.
use mathlib.Core.Path.{◌≡◌, refl}
use mathlib.Core.Bool.{true, ◌&&◌}
use mathlib.Core.List.{List, [], ◌∷◌}
use Prim.Native.Nat.{ℕ, ◌+◌, ◌<◌, ◌≤◌}
use native.Mathlib.Omega.{arith}
use lib.Dec.{leb}
use lib.ListN.{length, get_or, take, drop}
use borrow.Author.Tests.{leb-true}
use Rattle.numbers.specs.Pick.{pick}
use Rattle.numbers.specs.Size.{Size}
use Rattle.numbers.proofs.Tests.{and_left, and_right}
use Rattle.grammar.specs.Rule.{own, done, fails}
use Rattle.grammar.specs.Law.{Lawful, Holds}
use Rattle.grammar.specs.Kind.{Node, before}
use Rattle.grammar.proofs.Trees.{spell_done, spell_takes, spell_left, read_pick, names_pick}
use Rattle.grammar.proofs.KindLaw.{KindLaw, Lower, Plain}
use Rattle.lists.specs.Lists.{has}
use Rattle.grammar.specs.Checks.{different}
use Rattle.lists.proofs.Runs.{run_long, run_at}
use Rattle.grammar.specs.kinds.Pool.{place_of, pool_rule, pool}
use Rattle.grammar.proofs.Words.{place_in, word_at, word_in, place_word}
use Rattle.grammar.specs.Refusals.{number_of}

module _ (z : ℕ → Size) (count b : ℕ) (ws : List ℕ) (long : length ws ≡ b) (diff : different ws ≡ true) where
  pool_rule_lem : Lawful z count (pool_rule ws b)
  unfolding pool_rule
  pool_rule_lem = record {
    writes = λ n h.
        let l : n < length ws = rw long h in
        spell_takes z (λ c. pick (has c ws) (done (place_of c ws)) fails) (get_or ws n 0)
        (spell_left z (has (get_or ws n 0) ws) (done (place_of (get_or ws n 0) ws)) fails (word_in ws n l)
        (rw (place_word ws n l diff) (spell_done z n)));
    reads = λ w. read_pick z (λ n is. (n < b) × (own (get_or ws n 0) ∷ [] ≡ own w.0 ∷ is)) (has w.0 ws) (done (place_of w.0 ws)) fails
        (λ e v. (rw long at (place_in w.0 ws e), rw (word_at w.0 ws e)))
        (λ e v. absurd v) w.1;
    names = λ c. names_pick z [] (has c ws) (done (place_of c ws)) fails tt tt;
    meets = tt;
    inside = tt;
    among = λ p m. m;
    falls = λ n h. tt;
  }

pub pool_in : (v : Node) (z : ℕ → Size) → Holds (pool.checks v z) → (v.b ≤ 4096) × (v.a + v.b ≤ length v.pool)
pool_in v z h =
    let l = and_left (leb 1 v.b && leb v.b 4096) _ h.0 in (
      leb-true v.b 4096 (and_right (leb 1 v.b) _ l),
      leb-true (v.a + v.b) (length v.pool) (and_right (leb 1 v.b && leb v.b 4096) _ h.0),
    )

-- "the word at place+n", where its words are within the pool
pub pool_at : (p : List ℕ) (a b n : ℕ) → a + b ≤ length p → n < b → {c : ℕ} → c ≡ get_or p (a + n) 0 → (pool_rule (take b (drop a p)) b).items n ≡ own c ∷ []
unfolding pool_rule
pool_at p a b n l h e = rw (e, run_at p a b l n h)

pub pool_law : KindLaw pool
unfolding number_of
pool_law = record {
  gives = λ v z. refl;
  sees = λ v z h. refl;
  lawful = λ v z r h.
      let l = (pool_in v (before z v.own) h).1 in
      pool_rule_lem z v.nodes v.b (take v.b (drop v.a v.pool)) (run_long v.pool v.a v.b l) h.1.0;
  fit = λ v z f h. unfold pool_rule in
      let lo = leb-true 1 v.b (and_left (leb 1 v.b) _ (and_left (leb 1 v.b && leb v.b 4096) _ h.0)) in
      (omega arith, omega (arith, (pool_in v (before z v.own) h).0));
}

pub pool_lower : Lower pool
unfolding pool_rule
pool_lower v z h = tt

pub pool_plain : Plain pool
unfolding pool_rule
pool_plain a b p z = refl
