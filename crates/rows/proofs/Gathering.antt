-- The items of a row that is read, in turn.
--   Storing      a row's answer is that of its rest, so many numbers later, and those stand over the buffer's front, as far as that goes
--   answered_all, answered_stopped, gathered_size   what was gathered, by the answer
--   items_kept               `read_over`: what was kept is stored
--   items_few               no more numbers than the buffer has room for
-- Assumes nothing.
use mathlib.Core.Path.{◌≡◌, refl, sym, ap, ◌∙◌}
use mathlib.Core.List.{List, [], ◌∷◌, ◌++◌, append_assoc, append-nil}
use Prim.Native.Nat.{ℕ, zero, suc, ◌+◌, ◌-◌, ◌≤◌, ◌<◌}
use native.Mathlib.Nat.{not-suc-le-zero}
use native.Mathlib.Omega.{arith}
use lib.ListN.{length, take, drop, set, length-append, length-drop, drop_of_length-le}
use Rattle.grammar.specs.declared.refusal.Refusal.{Refusal}
use Rattle.grammar.specs.declared.refusal.Refusal.TheVariants.{NoRoom}
use Rattle.grammar.specs.Rule.{Rule}
use Rattle.lists.specs.Filled.{over}
use Rattle.checked.specs.Item.{Front, number, refused, front, Stood}
use Rattle.checked.specs.declared.item.Item.{Item}
use Rattle.std.specs.Prelude.{Result, Ok, Err}
use Rattle.lists.proofs.Fills.{over_long}
use Rattle.checked.proofs.Standing.{stood}
use Rattle.checked.proofs.Copying.{counted}
use Rattle.rows.specs.ReadRow.{Gathered, all, stopped, after, full, onward, gather, answered, gotten, NumbersOver, GotItems}
use Rattle.rows.proofs.Outcomes.{done_same, refused_same, found_err}
use Rattle.rows.specs.Row.{Outcome, done, refused_at, at_item}
use Rattle.rows.specs.declared.answer.Row.{Row}
use Rattle.rows.specs.declared.answer.RowRefused.{RowRefused}

-- ---- an answer that has some numbers before it
abbrev pub since : List ℕ → Gathered → Gathered
since ms (all ns) = all (ms ++ ns)
since ms (stopped r item) = stopped r (length ms + item)

since_none : (x : Gathered) → since [] x ≡ x
since_none (all ns) = refl
since_none (stopped r item) = let s : 0 + item ≡ item = omega arith in rw s

since_after : (ms : List ℕ) (n : ℕ) (x : Gathered) → since ms (after n x) ≡ since (ms ++ (n ∷ [])) x
since_after ms n (all ns) = ap all (sym (append_assoc ms (n ∷ []) ns))
since_after ms n (stopped r item) =
    let s : length ms + suc item ≡ length (ms ++ (n ∷ [])) + item = omega (arith, length-append ms (n ∷ [])) in
    rw s

-- ---- a row that has a cell
module _ (g : ℕ → Rule) (i : ℕ) where
  pub gather_none : (room : ℕ) → gather g i room [] ≡ all []
  unfolding gather
  gather_none zero = refl
  gather_none (suc room) = refl

  pub gather_full : (cs : List ℕ) → 0 < length cs → gather g i 0 cs ≡ full (front g i cs)
  unfolding gather
  gather_full [] l = absurd (not-suc-le-zero l)
  gather_full (c ∷ cs) l = refl

  pub gather_more : (room : ℕ) (cs : List ℕ) → 0 < length cs → gather g i (suc room) cs ≡ onward (front g i cs) (λ rest. gather g i room rest)
  unfolding gather
  gather_more room [] l = absurd (not-suc-le-zero l)
  gather_more room (c ∷ cs) l = refl

  -- an item's own refusal comes before 14
  gather_refused : (room : ℕ) (cs : List ℕ) → 0 < length cs → {x : Refusal} → front g i cs ≡ refused x → gather g i room cs ≡ stopped x 0
  gather_refused zero cs l e = rw (gather_full cs l, e)
  gather_refused (suc room) cs l e = rw (gather_more room cs l, e)

  -- ---- the loop: what is decided, and what the buffer holds
  pub record Storing (room : ℕ) (cells old now : List ℕ) (at items : ℕ) : Type 0 where
    pub ns : List ℕ
    pub many : length ns ≡ items
    pub within : at ≤ length cells
    pub fits : items ≤ room
    pub rest : gather g i room cells ≡ since ns (gather g i (room - items) (drop at cells))
    pub holds : now ≡ over ns old

  pub storing_none : (room : ℕ) (cells old : List ℕ) → Storing room cells old old 0 0
  unfolding over
  storing_none room cells old =
      let s : room - 0 ≡ room = omega arith in
      record { ns = []; many = refl; within = omega arith; fits = omega arith; rest = sym (rw s (since_none (gather g i room cells))); holds = refl }

  over_set : (ns old : List ℕ) (n : ℕ) → set (over ns old) (length ns) n ≡ over (ns ++ (n ∷ [])) old
  unfolding over
  over_set [] [] n = refl
  over_set [] (o ∷ old) n = refl
  over_set (m ∷ ns) [] n = refl
  over_set (m ∷ ns) (o ∷ old) n = ap (λ (xs : List ℕ). m ∷ xs) (over_set ns old n)

  module _ {room : ℕ} {cells old now : List ℕ} {at items : ℕ} (h : Storing room cells old now at items) where
    pub same_length : length now ≡ length old
    same_length = over_long h.ns old h.holds

    module _ (l : at < length cells) {r : Result Item Refusal} (w : Stood (front g i (drop at cells)) cells at r) where
      some : 0 < length (drop at cells)
      some = omega (arith, length-drop at cells)

      pub storing_more : {d : Item} {last : List ℕ} → r ≡ Ok d → items < room → last ≡ set now items d.number → Storing room cells old last d.next (items + 1)
      storing_more {d} q k put =
          let (e, lo, hi) = stood w q in
          let s : room - items ≡ suc (room - (items + 1)) = omega arith in
          record {
            ns = h.ns ++ (d.number ∷ []);
            many = omega (arith, length-append h.ns (d.number ∷ []), h.many);
            within = hi;
            fits = omega arith;
            rest = h.rest ∙ rw (s, gather_more (room - (items + 1)) (drop at cells) some, e) (since_after h.ns d.number
                (gather g i (room - (items + 1)) (drop d.next cells)));
            holds = put ∙ rw (h.holds, ← h.many) (over_set h.ns old d.number);
          }

      -- no number is promised: 14, or the item's own refusal
      stopping : {x : Refusal} → gather g i (room - items) (drop at cells) ≡ stopped x 0 → NumbersOver g i room cells old now (refused_at x 0 items)
      stopping e =
          let c : length h.ns + 0 ≡ items = omega (arith, h.many) in
          record { is = sym (rw (h.rest, e, c)); long = same_length; holds = λ m u y. let z : ◌≡◌ {A = ℕ} 0 1 = cc in absurd (omega arith) }

      pub storing_full : {d : Item} → r ≡ Ok d → room ≤ items → NumbersOver g i room cells old now (refused_at NoRoom 0 items)
      storing_full q k = let s : room - items ≡ 0 = omega arith in stopping (rw (s, gather_full (drop at cells) some, (stood w q).0))

      pub storing_stops : {s : Result Item RowRefused} {x : RowRefused} → s ≡ at_item r items → s ≡ Err x → NumbersOver g i room cells old now (Err x)
      storing_stops a p = let (y, q, m) = found_err r items a p in rw m (stopping (gather_refused (room - items) (drop at cells) some (stood w q)))

    pub storing_done : length cells ≤ at → NumbersOver g i room cells old now (done items at)
    storing_done l =
        let s : length cells ≡ at = omega (arith, h.within) in
        let e : gather g i room cells ≡ all h.ns = h.rest ∙ rw (drop_of_length-le cells {i = at} l, gather_none (room - items), append-nil) in
        record { is = rw (e, h.many, s); long = same_length; holds = λ m c x. h.holds ∙ rw e }

-- ---- an answer by what was gathered
pub answered_all : (used : ℕ) (x : Gathered) {m c : ℕ} → answered used x ≡ done m c → (ns : List ℕ) × (x ≡ all ns) × (length ns ≡ m) × (used ≡ c)
answered_all used (all ns) {m} {c} e = let (s, s') = done_same e in (ns, refl, s, s')
answered_all used (stopped r k) e = let z : ◌≡◌ {A = ℕ} 0 1 = cc in absurd (omega arith)

pub answered_stopped : (used : ℕ) (x : Gathered) {r : Refusal} {k item : ℕ} → answered used x ≡ refused_at r k item → x ≡ stopped r item
answered_stopped used (all ns) e = let z : ◌≡◌ {A = ℕ} 0 1 = cc in absurd (omega arith)
answered_stopped used (stopped x j) {r} {k} {item} e = let (s, s') = refused_same e in cc (s, s')

-- ---- what was gathered, turned round
pub full_not : (f : Front) {ns : List ℕ} → full f ≡ all ns → ⊥
full_not (number n rest) e = let z : ◌≡◌ {A = ℕ} 0 1 = cc in omega arith
full_not (refused r) e = let z : ◌≡◌ {A = ℕ} 0 1 = cc in omega arith

after_all : (n : ℕ) (x : Gathered) {ns : List ℕ} → after n x ≡ all ns → (ms : List ℕ) × (x ≡ all ms) × (ns ≡ n ∷ ms)
after_all n (all ms) {ns} e = let s : n ∷ ms ≡ ns = cc in (ms, refl, sym s)
after_all n (stopped r k) e = let z : ◌≡◌ {A = ℕ} 0 1 = cc in absurd (omega arith)

pub onward_all : (f : Front) (rest : List ℕ → Gathered) {ns : List ℕ} → onward f rest ≡ all ns
    → (n : ℕ) × (ds : List ℕ) × (ms : List ℕ) × (f ≡ number n ds) × (rest ds ≡ all ms) × (ns ≡ n ∷ ms)
onward_all (number n ds) rest e = let (ms, u, v) = after_all n (rest ds) e in (n, ds, ms, refl, u, v)
onward_all (refused r) rest e = let z : ◌≡◌ {A = ℕ} 0 1 = cc in absurd (omega arith)

-- a row of no cells
pub gathered_none : (g : ℕ → Rule) (i room : ℕ) {ns : List ℕ} → gather g i room [] ≡ all ns → [] ≡ ns
gathered_none g i room {ns} e = let f : all [] ≡ all ns = sym (gather_none g i room) ∙ e in cc

-- no more numbers are read than there is room for
gathered_fits : (g : ℕ → Rule) (i room : ℕ) (cs : List ℕ) {ns : List ℕ} → gather g i room cs ≡ all ns → length ns ≤ room
gathered_fits g i zero [] e = rw (← gathered_none g i 0 e) (omega arith)
gathered_fits g i zero (c ∷ cs) e = absurd (full_not (front g i (c ∷ cs)) (sym (gather_full g i (c ∷ cs) (omega arith)) ∙ e))
gathered_fits g i (suc room) [] e = rw (← gathered_none g i (suc room) e) (omega arith)
gathered_fits g i (suc room) (c ∷ cs) e =
    let (n, ds, ms, u, v, w) = onward_all (front g i (c ∷ cs)) (λ rest. gather g i room rest) (sym (gather_more g i room (c ∷ cs) (omega arith)) ∙ e) in
    omega (arith, ap length w, gathered_fits g i room ds v)

pub gathered_size : (g : ℕ → Rule) (i room : ℕ) (cs : List ℕ) (used : ℕ) {m c : ℕ} → answered used (gather g i room cs) ≡ done m c
    → (m ≡ length (gotten (gather g i room cs))) × (m ≤ room)
gathered_size g i room cs used e =
    let (ns, f, s, _) = answered_all used (gather g i room cs) e in
    (sym s ∙ ap (λ (x : Gathered). length (gotten x)) (sym f), omega (arith, gathered_fits g i room cs f))

-- ---- the items: decided over a buffer of the call's own
module _ {g : ℕ → Rule} {i : ℕ} {cs first kept : List ℕ} {r : Outcome} (old : List ℕ) (w : NumbersOver g i (length old) cs first kept r) where
  module _ {d : Row} (q : r ≡ Ok d) where
    many : (d.items ≡ length (gotten (gather g i (length old) cs))) × (d.items ≤ length old)
    many = gathered_size g i (length old) cs (length cs) (sym w.is ∙ q)

    pub items_few : d.items ≤ length old
    items_few = many.1

    pub items_kept : d.items ≤ length kept → {last : List ℕ} → last ≡ over (take d.items kept) old → GotItems g i cs old last (Ok d)
    items_kept l e = record {
      is = sym q ∙ w.is;
      holds = e
          ∙ ap (λ (xs : List ℕ). over xs old) (counted (gotten (gather g i (length old) cs)) first (w.holds d.items d.cells q) many.0 (omega (arith, w.long)));
    }
