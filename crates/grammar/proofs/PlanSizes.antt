-- The sizes that a plan's words stand for.
--   sizes_as   they are those of a list, where the words are
--   passed_of   a table that was weighed without a refusal is one whose nodes have passed
--   ready_of   a table whose nodes have passed is checked, with the sizes of its plan
-- Assumes nothing.
use mathlib.Core.Path.{◌≡◌, refl, sym, ap, ◌∙◌, fun_ext}
use mathlib.Core.Bool.{true, false≢true}
use mathlib.Core.Logic.{⊎_elim}
use mathlib.Core.List.{List}
use Prim.Native.Nat.{ℕ, ◌^◌, ◌<◌}
use native.Mathlib.Omega.{arith}
use lib.ListN.{length, get_or-eq_default}
use Rattle.numbers.specs.Size.{Size, finite, endless, code_of, size_of}
use Rattle.numbers.proofs.size.SizeWords.{sized_finite, sized_endless}
use Rattle.lists.proofs.Order.{le_or_lt}
use Rattle.std.specs.Prelude.{Ok}
use Rattle.grammar.specs.Table.{nodes, lengths}
use Rattle.grammar.specs.Law.{Fit}
use Rattle.grammar.specs.Sizes.{Scan, passed, faulty, size_at, scan, sizes_in, sizes}
use Rattle.grammar.specs.Plan.{size_word, size_in, WeighedBy, AllWeighed, Ready}
use Rattle.grammar.specs.Passed.{is_passed, AllPassed}
use Rattle.grammar.specs.Refusals.{Verdict}
use Rattle.grammar.specs.declared.entry.Entry.{Entry}
use Rattle.grammar.proofs.Checked.{sizes_fit, scan_long, checked_of}
use Rattle.grammar.proofs.Lengths.{lengths_are}

word_size : (s : Size) → Fit s → size_of (code_of s) ≡ s
word_size (finite s) h = sized_finite s (omega arith)
word_size endless h = sized_endless (2 ^ 63) (omega arith)

pub sizes_as : (zs : List Size) (plan : List Entry) → ((k : ℕ) → size_word plan k ≡ code_of (size_at zs k))
    → ((k : ℕ) → k < length zs → Fit (size_at zs k)) → size_in plan ≡ size_at zs
sizes_as zs plan words fit = fun_ext (λ k.
    ap size_of (words k)
    ∙ ⊎_elim (λ past. none k (get_or-eq_default zs (finite 0) past)) (λ l. word_size (size_at zs k) (fit k l)) (le_or_lt (length zs) k))
  where
    -- a node that is not there yet has the word 0
    none : (k : ℕ) → size_at zs k ≡ finite 0 → size_of (code_of (size_at zs k)) ≡ size_at zs k
    none k e = rw e (sized_finite 0 (omega arith))

-- ---- a table whose nodes have passed
pub passed_of : {t p : List ℕ} {plan : List Entry} {v : Verdict} {u : Unit {0}} → lengths t p ≡ true → AllWeighed t p plan v → v ≡ Ok u
    → AllPassed t p plan
passed_of {t} {p} {plan} long a e =
    let w : WeighedBy t p plan (Ok _) = rw e at a.is in
    let k = w.1 in
    record {
      lengths_fit = long;
      none_refused = ap is_passed w.0;
      long = k.long;
      sizes = k.size;
      words = λ n l. (k.kind n l, k.a n l, k.b n l);
    }

whole_scan : (s : Scan) → is_passed s ≡ true → s ≡ passed (sizes_in s)
whole_scan (passed zs) e = refl
whole_scan (faulty r k) e = absurd (false≢true e)

module _ {t p : List ℕ} {plan : List Entry} (h : AllPassed t p plan) where
  all_scanned : scan t p (nodes t) ≡ passed (sizes t p)
  unfolding sizes
  all_scanned = whole_scan (scan t p (nodes t)) h.none_refused

  pub ready_of : Ready t p plan
  ready_of = let (whole, _, few, _) = lengths_are t p (sym h.lengths_fit) in record {
    checked = rw (sizes_as (sizes t p) plan h.sizes (λ k l. sizes_fit t p all_scanned k (omega (arith, scan_long t p (nodes t) all_scanned))))
        (checked_of t p all_scanned whole few);
    long = h.long;
  }
