-- The turns of a search over any graph E of `count` nodes, at most 256, from a node `from`. `seen` marks the nodes that are reached, and `done` those whose
-- steps have all been followed.
-- Assumes nothing.
use mathlib.Core.Path.{◌≡◌, sym, ◌∙◌}
use mathlib.Core.Bool.{Bool, true, false, false≢true}
use mathlib.Core.Logic.{⊎_elim}
use mathlib.Core.List.{List, Memᴰ}
use Prim.Native.Nat.{ℕ, ◌+◌, ◌≤◌, ◌<◌}
use native.Mathlib.Omega.{arith}
use lib.ListN.{length, get_or, set, length-set}
use Rattle.graph.specs.Paths.{Path}
use Rattle.graph.specs.Paths.Path.{one}
use Rattle.graph.specs.Marks.{marked, Marks}
use Rattle.graph.proofs.Marks.{set_keeps, set_hits, set_only, marked_length, marked_keeps, marked_hits, marked_only}
use Rattle.lists.proofs.Order.{same?}
use Rattle.graph.proofs.Paths.{snoc, carry_from}

-- what holds at the head of the loop
pub record Searching (E : ℕ → ℕ → Type 0) (count from top : ℕ) (seen done : List Bool) : Type 0 where
  pub top_le : top ≤ count
  pub seen_long : length seen ≡ 256
  pub done_long : length done ≡ 256
  pub sound : (k : ℕ) → get_or seen k false ≡ true → Path E from k
  pub start : (k : ℕ) → E from k → get_or seen k false ≡ true
  pub closed : (n m : ℕ) → get_or done n false ≡ true → E n m → get_or seen m false ≡ true
  pub above : (k : ℕ) → top ≤ k → k < count → get_or seen k false ≡ true → get_or done k false ≡ true

-- a graph whose steps from n are to the nodes of the list `next n`, each of them below count, which is at most 256
pub record Finite (E : ℕ → ℕ → Type 0) (next : ℕ → List ℕ) (count : ℕ) : Type 0 where
  pub few : count ≤ 256
  pub to_next : (n m : ℕ) → E n m → Memᴰ m (next n)
  pub of_next : (n m : ℕ) → Memᴰ m (next n) → E n m
  pub inside : (n m : ℕ) → E n m → m < count

module _ {E : ℕ → ℕ → Type 0} {next : ℕ → List ℕ} {count : ℕ} (g : Finite E next count) where
  -- the start's own steps, marked in blank marks b
  pub search_start : (from : ℕ) (b : List Bool) → length b ≡ 256 → ((k : ℕ) → get_or b k false ≡ false) → Searching E count from count (marked b (next from)) b
  search_start from b long blank = record {
    top_le = omega arith;
    seen_long = marked_length b (next from) ∙ long;
    done_long = long;
    sound = λ k h. ⊎_elim (λ l. absurd (none k l)) (λ i. one (g.of_next from k i)) (marked_only b (next from) k h);
    start = λ k e. marked_hits b k (omega (arith, g.inside from k e)) (g.to_next from k e);
    closed = λ n m h e. absurd (none n h);
    above = λ k l b h. absurd (omega arith);
  }
    where
      none : (k : ℕ) → get_or b k false ≡ true → ⊥
      none k h = false≢true (sym (blank k) ∙ h)

  module _ {from top : ℕ} {seen done : List Bool} (s : Searching E count from top seen done) (n : ℕ) (at : n + 1 ≡ top) where
    -- a node that is not reached, or is done
    pub search_skip : (get_or seen n false ≡ true → get_or done n false ≡ true) → Searching E count from n seen done
    search_skip f = record {
      top_le = omega (arith, s.top_le);
      seen_long = s.seen_long;
      done_long = s.done_long;
      sound = s.sound;
      start = s.start;
      closed = s.closed;
      above = λ k l b h. ⊎_elim (λ e. rw e (f (rw e at h))) (λ ne. s.above k (omega arith) b h) (same? k n);
    }

    -- a node is opened: its steps are followed, and the search goes on from `up`, below which lie all that they lead to
    pub search_open : get_or seen n false ≡ true → (up : ℕ) → n ≤ up → up ≤ count → ((m : ℕ) → E n m → m < up)
        → Searching E count from up (marked seen (next n)) (set done n true)
    search_open r up ge le low = record {
      top_le = le;
      seen_long = marked_length seen (next n) ∙ s.seen_long;
      done_long = length-set done n true ∙ s.done_long;
      sound = λ k h. ⊎_elim (s.sound k) (λ i. snoc (s.sound n r) (g.of_next n k i)) (marked_only seen (next n) k h);
      start = λ k e. marked_keeps seen (next n) k (s.start k e);
      closed = λ k m h e. ⊎_elim (λ d. marked_keeps seen (next n) m (s.closed k m d e)) (λ q. hits m (rw q at e)) (set_only done n k h);
      above = λ k l b h. ⊎_elim (λ o. opened k l b o) (λ i. absurd (omega (arith, low k (g.of_next n k i)))) (marked_only seen (next n) k h);
    }
      where
        hits : (m : ℕ) → E n m → get_or (marked seen (next n)) m false ≡ true
        hits m e = marked_hits seen m (omega (arith, g.inside n m e, s.seen_long)) (g.to_next n m e)

        opened : (k : ℕ) → up ≤ k → k < count → get_or seen k false ≡ true → get_or (set done n true) k false ≡ true
        opened k l b o =
            ⊎_elim (λ e. rw e (set_hits done n (omega (arith, s.top_le, s.done_long)))) (λ ne. set_keeps done n k (s.above k (omega arith) b o))
            (same? k n)

  -- nothing is left: the marks stand at just the nodes that are reached
  pub search_end : {from : ℕ} {seen done : List Bool} → Searching E count from 0 seen done → Marks (Path E from) seen
  search_end {from} {seen} s = record {
    sound = s.sound;
    complete = λ k q. carry_from (λ (n : ℕ). get_or seen n false ≡ true) on s.start q;
  }
    where
      on : (n m : ℕ) → get_or seen n false ≡ true → E n m → get_or seen m false ≡ true
      on n m h e = s.closed n m (s.above n (omega arith) (carry_from (λ (k : ℕ). k < count) (λ a b _ f. g.inside a b f) (λ a f. g.inside from a f)
          (s.sound n h)) h) e
