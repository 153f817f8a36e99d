-- Texts put on a page, one behind another.
--   place_in, _front, _within      where the next byte goes
--   one, ◌then◌, told              a byte, a text behind another, and a text by another name
--   Putting, put_none, _more, _all a text, byte by byte
--   put_whole                      a text that fits, all at once
--   Listing, list_none, _more, _all numbers, a space before each
--   line_none, line_some           a line of numbers
-- Assumes nothing.
use mathlib.Core.Path.{◌≡◌, refl, sym, subst, ◌∙◌}
use mathlib.Core.Bool.{Bool, true, false, cond}
use mathlib.Core.List.{List, [], ◌∷◌, ◌++◌, append-nil, append_assoc}
use Prim.Native.Nat.{ℕ, suc, ◌+◌, ◌-◌, ◌≤◌, ◌<◌}
use native.Mathlib.Numerals.{add-one}
use native.Mathlib.Omega.{arith}
use lib.Dec.{ltb}
use lib.ListN.{length, get_or, take, drop, set, length-set}
use lib.Seq.{take-suc, take_all, drop-cons, drop-set-lt}
use borrow.Rule.Slice.PartMut.{put_mid}
use Rattle.std.proofs.lemmas.List.{take-append-drop, take_more_set}
use borrow.Author.Tests.{ltb-true, lt-ltb, le-ltb}
use Rattle.texts.specs.declared.page.Page.{Page}
use Rattle.texts.specs.Decimal.{decimal}
use Rattle.texts.specs.Page.{page_bytes, place, page_after, waiting, Puts}
use Rattle.texts.specs.Line.{line_text, spaced}

-- ---- a byte
pub place_in : (used : ℕ) → used < page_bytes → used ≡ place used
unfolding place
place_in used l = rw (lt-ltb used page_bytes l)

pub place_front : (used : ℕ) → page_bytes ≤ used → 0 ≡ place used
unfolding place
place_front used l = rw (le-ltb used page_bytes l)

pub place_within : (used : ℕ) {at : ℕ} → at ≡ place used → at < page_bytes
unfolding place
place_within used f = rw f (by (ltb used page_bytes) refl)
  where
    by : (q : Bool) → ltb used page_bytes ≡ q → cond q used 0 < page_bytes
    by true e = ltb-true used page_bytes e
    by false e = omega arith

pub one : {old : Page} {b at : ℕ} → at ≡ place old.used → Puts (b ∷ []) old (record { bytes = set old.bytes at b; used = at + 1 })
unfolding page_after waiting
one e = record { page = rw e; waits = rw e }

-- ---- a text behind another
page_then : (a b page : List ℕ) (used : ℕ) → page_after (a ++ b) page used ≡ page_after b (page_after a page used) (waiting a used)
unfolding page_after waiting
page_then [] b page used = refl
page_then (x ∷ a) b page used = page_then a b (set page (place used) x) (place used + 1)

waits_then : (a b : List ℕ) (used : ℕ) → waiting (a ++ b) used ≡ waiting b (waiting a used)
unfolding waiting
waits_then [] b used = refl
waits_then (x ∷ a) b used = waits_then a b (place used + 1)

infixl 20 ◌then◌
pub ◌then◌ : {a b : List ℕ} {old mid last : Page} → Puts a old mid → Puts b mid last → Puts (a ++ b) old last
◌then◌ {a} {b} {old} {mid} {last} p q =
    record {
      page = q.page ∙ rw (p.page, p.waits) (sym (page_then a b old.bytes old.used));
      waits = q.waits ∙ rw p.waits (sym (waits_then a b old.used));
    }

-- a text by another name
pub told : {a b : List ℕ} → a ≡ b → {old last : Page} → Puts a old last → Puts b old last
told e {old} {last} p = subst (λ (text : List ℕ). Puts text old last) e p

-- ---- a text, byte by byte
pub none : {old : Page} → Puts [] old old
unfolding page_after waiting
none = record { page = refl; waits = refl }

pub record Putting (text : List ℕ) (old now : Page) (i : ℕ) : Type 0 where
  pub so_far : Puts (take i text) old now

pub put_none : {text : List ℕ} {old : Page} → Putting text old old 0
put_none = record { so_far = none }

module _ {text : List ℕ} {old now : Page} {i : ℕ} (s : Putting text old now i) where
  pub put_more : i < length text → {last : Page} → Puts (get_or text i 0 ∷ []) now last → Putting text old last (i + 1)
  put_more l p = record { so_far = rw (add-one, take-suc text i 0 l) (s.so_far then p) }

  pub put_all : length text ≤ i → Puts text old now
  put_all l = rw (take_all i text l) at s.so_far

-- ---- a text that fits, all at once
whole_page : (text page : List ℕ) (used : ℕ) → used + length text ≤ page_bytes → length page ≡ page_bytes
    → put_mid used (length text) page text ≡ page_after text page used
unfolding page_after
whole_page [] page used l w = take-append-drop used page
whole_page (b ∷ bs) page used l w =
    let h : used < length page = omega arith in
    let k : used < used + 1 = omega arith in
    let onto : put_mid used (length (b ∷ bs)) page (b ∷ bs) ≡ put_mid (used + 1) (length bs) (set page used b) bs =
    rw (take_more_set page used b h, drop-set-lt (used + 1) page used b k, add-one, drop-cons page used 0 h)
    (sym (append_assoc (take used page) (b ∷ []) (bs ++ drop (length bs) (drop (suc used) page)))) in
    rw (← place_in used (omega arith)) (onto ∙ whole_page bs (set page used b) (used + 1) (omega arith) (length-set page used b ∙ w))

whole_waits : (text : List ℕ) (used : ℕ) → used + length text ≤ page_bytes → used + length text ≡ waiting text used
unfolding waiting
whole_waits [] used l = omega arith
whole_waits (b ∷ bs) used l =
    let further : used + length (b ∷ bs) ≡ used + 1 + length bs = omega arith in
    rw (← place_in used (omega arith)) (further ∙ whole_waits bs (used + 1) (omega arith))

pub put_whole : {text copied : List ℕ} {old : Page} {size : ℕ} → old.used + length text ≤ page_bytes → length old.bytes ≡ page_bytes → copied ≡ text
    → size ≡ length text → Puts text old (record { bytes = put_mid old.used size old.bytes copied; used = old.used + length text })
put_whole {text} {old = old} l w e s =
    record { page = rw (e, s) (whole_page text old.bytes old.used l w); waits = whole_waits text old.used l }

-- ---- numbers, a space before each
spaced_then : (ns : List ℕ) (n : ℕ) → spaced (ns ++ (n ∷ [])) ≡ spaced ns ++ ((32 ∷ []) ++ decimal n)
unfolding spaced
spaced_then [] n = append-nil ((32 ∷ []) ++ decimal n)
spaced_then (m ∷ ns) n = rw (spaced_then ns n) (sym (append_assoc ((32 ∷ []) ++ decimal m) (spaced ns) ((32 ∷ []) ++ decimal n)))

pub record Listing (ns : List ℕ) (old now : Page) (i : ℕ) : Type 0 where
  pub so_far : Puts (spaced (take i ns)) old now

pub list_none : {ns : List ℕ} {old : Page} → Listing ns old old 0
unfolding spaced
list_none = record { so_far = none }

module _ {ns : List ℕ} {old now : Page} {i : ℕ} (s : Listing ns old now i) where
  pub list_more : i < length ns → {mid last : Page} → Puts (32 ∷ []) now mid → Puts (decimal (get_or ns i 0)) mid last → Listing ns old last (i + 1)
  list_more l p q = record { so_far = rw (add-one, take-suc ns i 0 l, spaced_then (take i ns) (get_or ns i 0)) (s.so_far then (p then q)) }

  pub list_all : length ns ≤ i → Puts (spaced ns) old now
  list_all l = rw (take_all i ns l) at s.so_far

-- ---- a line of numbers: the first, and the others with a space before each
line_spaced : (n : ℕ) (ns : List ℕ) → line_text (n ∷ ns) ≡ decimal n ++ spaced ns ++ (10 ∷ [])
unfolding line_text spaced
line_spaced n [] = sym (append_assoc (decimal n) [] (10 ∷ []))
line_spaced n (m ∷ ns) = rw (line_spaced m ns) (simp append_assoc)

pub line_none : (ns : List ℕ) → length ns ≡ 0 → {old last : Page} → Puts (10 ∷ []) old last → Puts (line_text ns) old last
unfolding line_text
line_none [] e p = p
line_none (n ∷ ns) e p = absurd (omega arith)

pub line_some : (ns : List ℕ) → (length ns ≡ 0 → ⊥) → {old mid late last : Page} → Puts (decimal (get_or ns 0 0)) old mid
    → Puts (spaced (take (length ns - 1) (drop 1 ns))) mid late → Puts (10 ∷ []) late last → Puts (line_text ns) old last
line_some [] f p q s = absurd (f refl)
line_some (n ∷ ns) f {mid = mid} {late = late} p q s =
    let all : take (length (n ∷ ns) - 1) ns ≡ ns = take_all (length (n ∷ ns) - 1) ns (omega arith) in
    rw (line_spaced n ns) (p then subst (λ (xs : List ℕ). Puts (spaced xs) mid late) all q then s)
