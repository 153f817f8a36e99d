-- The nodes that read one cell: below, nats and pool. They read no part, so what parts read (`go`) does not matter.
--   leaf_..      any of them: its cell is not there, or stands for a number or for none
--   counted_..   below
--   any_..       nats
--   listed_..    pool
-- Assumes nothing.
use mathlib.Core.Path.{◌≡◌, refl}
use mathlib.Core.Bool.{Bool, true, false}
use mathlib.Core.List.{List}
use Prim.Native.Nat.{ℕ, ◌+◌, ◌^◌, ◌≤◌, ◌<◌}
use native.Mathlib.Omega.{arith}
use lib.Dec.{ltb}
use lib.ListN.{length, take, drop, length-take}
use borrow.Author.Tests.{ltb-true}
use Rattle.numbers.specs.Pick.{pick}
use Rattle.numbers.specs.Joined.{limit, capped, word_of}
use Rattle.lists.specs.Lists.{has}
use Rattle.grammar.specs.Rule.{Tree, done, fails, takes}
use Rattle.grammar.specs.Placed.{counted, placed}
use Rattle.grammar.specs.kinds.Below.{below_rule}
use Rattle.grammar.specs.kinds.Nats.{nats_rule}
use Rattle.grammar.specs.kinds.Pool.{place_of, pool_rule}
use Rattle.grammar.proofs.Words.{place_in}
use Rattle.walk.specs.Run.{Read, read, follow}
use Rattle.std.specs.Prelude.{Some, None, Result, Ok, Err}
use Rattle.taking.specs.declared.number.Unread.{Unread}
use Rattle.taking.specs.Number.{unread}
use Rattle.taking.specs.Took.{Taken, Celled}
use Rattle.taking.proofs.Cells.{taken_done, taken_number, taken_fails, cell_stops, cell_in, cell_of_lem}

-- ---- F says what a cell is read as
module _ {off : ℕ} {row : List ℕ} {at : ℕ} {r : Result ℕ Unread} (e : Celled off row at r) (go : ℕ → ℕ → ℕ → List ℕ → Read) (F : ℕ → Tree) where
  leaf_stops : {u : Unread} → r ≡ Err u → at ≤ length row → {l next : ℕ} → Taken l (follow go off (takes F)) row at next (unread u)
  unfolding follow
  leaf_stops q i = cell_stops e q i (λ c. follow go 0 (F c))

  -- a cell that stands for a number by itself, or for none
  module _ {c : ℕ} (q : r ≡ Ok c) (b : Bool) (m : ℕ) (d : F c ≡ pick b (done m) fails) where
    leaf_some : (b ≡ true → m < limit) → {n : ℕ} → Some n ≡ pick b (Some m) None → Taken limit (follow go off (takes F)) row at (at + 1) n
    unfolding follow
    leaf_some l {n} s = by b d l s
      where
        by : (b : Bool) → F c ≡ pick b (done m) fails → (b ≡ true → m < limit) → Some n ≡ pick b (Some m) None
            → Taken limit (follow go off (takes F)) row at (at + 1) n
        by true d l s = let k : n ≡ m = cc in rw k (cell_of_lem e q (λ c. follow go 0 (F c)) (rw d (taken_done (l refl) (omega (arith, cell_in e q)))))
        by false d l s = let z : ◌≡◌ {A = ℕ} 0 1 = cc in absurd (omega arith)

    leaf_none : None ≡ pick b (Some m) None → {next : ℕ} → Taken limit (follow go off (takes F)) row at next (2 ^ 63 + 2)
    unfolding follow
    leaf_none s {next} = by b d s
      where
        by : (b : Bool) → F c ≡ pick b (done m) fails → None ≡ pick b (Some m) None → Taken limit (follow go off (takes F)) row at next (2 ^ 63 + 2)
        by true d s = let z : ◌≡◌ {A = ℕ} 0 1 = cc in absurd (omega arith)
        by false d s = cell_of_lem e q (λ c. follow go 0 (F c)) (rw d taken_fails)

-- ---- below
pub counted_low : (a c : ℕ) {m : ℕ} → Some m ≡ counted a c → m < a
counted_low a c {m} f = by (ltb c a) refl f
  where
    by : (b : Bool) → ltb c a ≡ b → Some m ≡ pick b (Some c) None → m < a
    by true e k = let q : m ≡ c = cc in omega (arith, ltb-true c a e)
    by false e k = let z : ◌≡◌ {A = ℕ} 0 1 = cc in absurd (omega arith)

module _ (a : ℕ) {off : ℕ} {row : List ℕ} {at : ℕ} {r : Result ℕ Unread} (e : Celled off row at r) (go : ℕ → ℕ → ℕ → List ℕ → Read) where
  pub counted_stops : {u : Unread} → r ≡ Err u → at ≤ length row → {next : ℕ} → Taken limit (follow go off (below_rule a).tree) row at next (unread u)
  unfolding below_rule
  counted_stops q i = leaf_stops e go _ q i

  module _ (c : ℕ) (q : r ≡ Ok c) where
    pub counted_some : {m : ℕ} → Some m ≡ counted a c → a ≤ 2 ^ 62 → Taken limit (follow go off (below_rule a).tree) row at (at + 1) m
    unfolding below_rule
    counted_some f l = leaf_some e go (λ c. pick (ltb c a) (done c) fails) q (ltb c a) c refl (λ b. omega (arith, ltb-true c a b)) f

    pub counted_none : None ≡ counted a c → {next : ℕ} → Taken limit (follow go off (below_rule a).tree) row at next (2 ^ 63 + 2)
    unfolding below_rule
    counted_none f = leaf_none e go (λ c. pick (ltb c a) (done c) fails) q (ltb c a) c refl f

-- ---- nats
module _ {off : ℕ} {row : List ℕ} {at : ℕ} {r : Result ℕ Unread} (e : Celled off row at r) (go : ℕ → ℕ → ℕ → List ℕ → Read) where
  pub any_stops : {u : Unread} → r ≡ Err u → at ≤ length row → {l next : ℕ} → Taken l (follow go off nats_rule.tree) row at next (unread u)
  unfolding nats_rule
  any_stops q i = leaf_stops e go (λ c. done c) q i

  pub any_number : {c : ℕ} → r ≡ Ok c → {w : ℕ} → w ≡ word_of (capped c) → Taken limit (follow go off nats_rule.tree) row at (at + 1) w
  unfolding nats_rule follow
  any_number {c} q s = cell_of_lem e q (λ c. read c) (taken_number c (omega arith) (omega (arith, cell_in e q)) s)

-- ---- pool: among the b words from place a on
module _ (p : List ℕ) (a b : ℕ) {off : ℕ} {row : List ℕ} {at : ℕ} {r : Result ℕ Unread} (e : Celled off row at r) (go : ℕ → ℕ → ℕ → List ℕ → Read) where
  abbrev ws : List ℕ
  ws = take b (drop a p)

  pub listed_stops : {u : Unread} → r ≡ Err u → at ≤ length row → {next : ℕ} → Taken limit (follow go off (pool_rule ws b).tree) row at next (unread u)
  unfolding pool_rule
  listed_stops q i = leaf_stops e go _ q i

  module _ (c : ℕ) (q : r ≡ Ok c) where
    pub listed_some : {m : ℕ} → Some m ≡ placed c ws → b ≤ 4096 → Taken limit (follow go off (pool_rule ws b).tree) row at (at + 1) m
    unfolding pool_rule
    listed_some f l =
        leaf_some e go (λ c. pick (has c ws) (done (place_of c ws)) fails) q (has c ws) (place_of c ws) refl (λ o. omega (arith, place_in c ws o, length-take b (drop a p))) f

    pub listed_none : None ≡ placed c ws → {next : ℕ} → Taken limit (follow go off (pool_rule ws b).tree) row at next (2 ^ 63 + 2)
    unfolding pool_rule
    listed_none f = leaf_none e go (λ c. pick (has c ws) (done (place_of c ws)) fails) q (has c ws) (place_of c ws) refl f
