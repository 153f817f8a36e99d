-- Demand 2, for every accepted table and every start in it: of the case of a number and the number of a case each undoes the other, and nothing else is
-- accepted.
-- The theorems are about what `write` and `read` answer on every input (`writes`, `reads`: their promises). Each proof is a citation.
--   case_some           every case has at least one cell
--   case_written        a number asked for that has a case within the limits: `write` gives it
--   written_then_read   what `write` gives, `read` finds the number of
--   read_then_written   what `read` finds the number of, `write` gives back, in any buffer that is long enough
--   read_case           what a walk reads is a case
--   only_cases          `read` gives a number only for the cells of its case
--   one_case, one_number   a number has one case, a case one number
--   no_case_begins      the same of cells at any depths, and of any two numbers
-- reads_on, longer_refused, no_beginning   a case followed by anything is read to its end, so `read` refuses it, and no case is the beginning of a
-- different one
-- The reader of the crate `rows` goes on from there (`case_handed` of `Rattle.promises.proofs.OneList`).
-- Assumes nothing.
use mathlib.Core.Path.{◌≡◌, refl, sym, subst, ap, ◌∙◌}
use mathlib.Core.List.{List, [], ◌∷◌, ◌++◌, append-nil, map}
use Prim.Native.Nat.{ℕ, ◌+◌, ◌-◌, ◌^◌, ◌≤◌, ◌<◌}
use native.Mathlib.Omega.{arith}
use lib.ListN.{length, length-map}
use Rattle.numbers.specs.Size.{Size, Below}
use Rattle.grammar.specs.Table.{nodes}
use Rattle.grammar.specs.Sizes.{size_at, sizes, rules_of}
use Rattle.grammar.specs.Verdict.{verdict}
use Rattle.grammar.specs.declared.refusal.Refusal.TheVariants.{NotACase}
use Rattle.std.specs.Prelude.{Ok}
use Rattle.grammar.specs.Refusals.{accepted, refused}
use Rattle.walk.specs.Walk.{cell, walk, cells, depth}
use Rattle.walk.specs.Room.{Case, most}
use Rattle.walk.specs.Run.{read, run}
use Rattle.grammar.specs.Law.{Good}
use Rattle.walk.proofs.Back.{back}
use Rattle.walk.proofs.Only.{only, prefix_free}
use Rattle.walk.proofs.Ends.{walk_some}
use Rattle.cases.specs.Read.{Found, reads}
use Rattle.cases.specs.Write.{writes}
use Rattle.cases.proofs.Meaning.{accepted_checked}
use Rattle.checked.specs.Fits.{Asked}
use Rattle.checked.proofs.Fitted.{cells_map}
use Rattle.cases.proofs.WalkAnswers.{reads_is, left_over, found_number, number_found, writes_is, writes_done}
use Rattle.walk.proofs.Ends.{deeper_cells}

module _ (t p : List ℕ) (a : verdict t p ≡ accepted) (i : ℕ) (l : i < nodes t) where
  abbrev z : ℕ → Size
  z = size_at (sizes t p)

  good : Good z (nodes t) (rules_of t p)
  good = (accepted_checked t p a).good

  -- a number asked for is below the size that the scan has
  below : {n : ℕ} → Asked (rules_of t p i).size n → Below n (z i)
  below {n} q = subst (Below n) (sym (good.sized i l)) q.below

  -- ---- what a case is
  case_of : (n room k : ℕ) → writes t p i n room ≡ Ok k → Case (rules_of t p) i n (cells (walk (rules_of t p) depth 0 i n))
  case_of n room k e = let (q, s, c, f) = writes_done t p i n room k e in record { shows = s; few = omega arith }

  -- every case has at least one cell
  pub case_some : (n : ℕ) (cs : List ℕ) → Asked (rules_of t p i).size n → Case (rules_of t p) i n cs → 0 < length cs
  case_some n cs q c = omega (arith, walk_some z (nodes t) (rules_of t p) good depth i n l (below q) 0, ap length c.shows, length-map cs cell)

  pub case_written : (n room : ℕ) (cs : List ℕ) → Asked (rules_of t p i).size n → Case (rules_of t p) i n cs → length cs ≤ room
      → (writes t p i n room ≡ Ok (length cs)) × (cells (walk (rules_of t p) depth 0 i n) ≡ cs)
  case_written n room cs q c f = (writes_is t p a i l n room cs q c.shows (omega (arith, c.few)), rw c.shows (cells_map cs))

  -- ---- 4. a case followed by anything
  pub reads_on : {n : ℕ} {cs : List ℕ} (rest : List ℕ) → Asked (rules_of t p i).size n → Case (rules_of t p) i n cs
      → run (rules_of t p) depth 0 i most (cs ++ rest) ≡ read n (most - length cs) rest
  reads_on {n} {cs} rest q c =
      let room : length cs + (most - length cs) ≡ most = omega (arith, c.few) in
      rw room at (back z (nodes t) (rules_of t p) good depth 0 i n l (below q) cs c.shows (most - length cs) rest)

  -- so `read`, which is for a whole case, refuses it
  pub longer_refused : (n : ℕ) (cs : List ℕ) (c : ℕ) (more : List ℕ) → Asked (rules_of t p i).size n → Case (rules_of t p) i n cs
      → reads t p i (cs ++ (c ∷ more)) ≡ refused NotACase 0
  longer_refused n cs c more q k = reads_is t p a i l (cs ++ (c ∷ more)) ∙ left_over _ (reads_on (c ∷ more) q k)

  -- ---- 1. written, then read
  case_read : (n : ℕ) (cs : List ℕ) → Asked (rules_of t p i).size n → Case (rules_of t p) i n cs → reads t p i cs ≡ Ok n
  case_read n cs q c = reads_is t p a i l cs ∙ number_found _ n (most - length cs) (rw append-nil at (reads_on [] q c)) q.small

  pub written_then_read : (n room k : ℕ) → writes t p i n room ≡ Ok k → reads t p i (cells (walk (rules_of t p) depth 0 i n)) ≡ Ok n
  written_then_read n room k e = case_read n _ (writes_done t p i n room k e).0 (case_of n room k e)

  -- ---- 3. nothing else is accepted
  pub read_case : {n q : ℕ} {cs rest : List ℕ} → run (rules_of t p) depth 0 i most cs ≡ read n q rest → n < 2 ^ 62
      → (ws : List ℕ) × Asked (rules_of t p i).size n × Case (rules_of t p) i n ws × (cs ≡ ws ++ rest)
  read_case {n} {q} {cs} r s =
      let (b, w) = only z (nodes t) (rules_of t p) good depth 0 i l most cs r in
      (w.ws, record { below = subst (Below n) (good.sized i l) b; small = s }, record { shows = w.shows; few = omega (arith, w.room) }, w.stands)

  pub only_cases : (n : ℕ) (cs : List ℕ) → reads t p i cs ≡ Ok n → Asked (rules_of t p i).size n × Case (rules_of t p) i n cs
  only_cases n cs e =
      let (q, r, s) = found_number _ n (sym (reads_is t p a i l cs) ∙ e) in
      let (ws, k, c, same) = read_case r s in
      (k, subst (Case (rules_of t p) i n) (sym (same ∙ append-nil ws)) c)

  pub one_case : (n : ℕ) (cs ds : List ℕ) → reads t p i cs ≡ Ok n → reads t p i ds ≡ Ok n → cs ≡ ds
  one_case n cs ds e f =
      let (q, c) = only_cases n cs e in
      let (r, d) = only_cases n ds f in
      sym (case_written n (length cs) cs q c (omega arith)).1 ∙ (case_written n (length ds) ds r d (omega arith)).1

  pub one_number : (m n : ℕ) (cs : List ℕ) → reads t p i cs ≡ Ok m → reads t p i cs ≡ Ok n → m ≡ n
  one_number m n cs e f = let g : ◌≡◌ {A = Found} (Ok m) (Ok n) = sym e ∙ f in cc

  -- ---- 2. read, then written
  pub read_then_written : (n room : ℕ) (cs : List ℕ) → reads t p i cs ≡ Ok n → length cs ≤ room
      → (writes t p i n room ≡ Ok (length cs)) × (cells (walk (rules_of t p) depth 0 i n) ≡ cs)
  read_then_written n room cs e f = let (q, c) = only_cases n cs e in case_written n room cs q c f

  pub no_beginning : (m n : ℕ) (cs more : List ℕ) → reads t p i cs ≡ Ok m → reads t p i (cs ++ more) ≡ Ok n → (more ≡ []) × (m ≡ n)
  no_beginning m n cs more e f =
      let (q, c) = only_cases m cs e in
      let (r, d) = only_cases n (cs ++ more) f in
      prefix_free z (nodes t) (rules_of t p) good depth i m n l (below q) (below r) cs (cs ++ more) more c.shows d.shows refl

  pub no_case_begins : (d d' m n : ℕ) (cs more : List ℕ) → Below m (size_at (sizes t p) i) → Below n (size_at (sizes t p) i)
      → walk (rules_of t p) d 0 i m ≡ map cell cs → walk (rules_of t p) d' 0 i n ≡ map cell (cs ++ more) → (more ≡ []) × (m ≡ n)
  no_case_begins d d' m n cs more h k e f =
      prefix_free z (nodes t) (rules_of t p) good (d + d') i m n l h k cs (cs ++ more) more (deeper_cells (rules_of t p) d (d + d') (omega arith) i m cs e)
      (deeper_cells (rules_of t p) d' (d + d') (omega arith) i n (cs ++ more) f) refl
