-- "These idle versions have to be caught": at an input, each promise excludes what the idle version returns.
--   check_refuses_everything, refuses_everything, read_refuses_everything   "one that refuses everything": `check`, `write`, `read`
--   row_refuses_everything, row_read_refuses_everything, reader_refuses_everything   the row calls and the reader
--   number_0_each_time, zeros_stored                 "one that gives number 0 .. each time": `read`, `read_row`
--   same_cells_each_time, same_tag_each_time, same_word_each_time   "or the same cells each time": number cells, tags, pool words
--   done_and_nothing_written, row_done_and_nothing_written, row_done_and_nothing_stored   "one that reports done and writes nothing"
--   item_0_and_pretends, item_0_read_and_pretends    "a row call that handles item 0 and pretends afterwards"
--   made_up_count, row_made_up_count, row_read_made_up_count   "a made-up cell count"
-- Assumes nothing.
use mathlib.Core.Path.{◌≡◌, refl, ap, ◌∙◌}
use mathlib.Core.List.{List, [], ◌∷◌}
use Prim.Native.Nat.{ℕ}
use native.Mathlib.Omega.{arith}
use Rattle.std.specs.Prelude.{Ok}
use Rattle.grammar.specs.Refusals.{accepted, refused}
use Rattle.cases.specs.Read.{Found}
use Rattle.cases.specs.Write.{Written}
use Rattle.rows.specs.Row.{done, refused_at}
use Rattle.rows.specs.Reader.{hands}
use Rattle.grammar.specs.Sizes.{rules_of}
use Rattle.walk.specs.Walk.{walk}
use Rattle.walk.specs.Walk
use Rattle.checked.specs.Fits.{fitted}
use Rattle.checked.specs.Opening.{opening}
use Rattle.checked.specs.Item.{front_of, whole_of}
use Rattle.lists.specs.Filled.{over}
use Rattle.walk.proofs.Opened.{walking}
use Rattle.grammar.specs.Verdict.{verdict, answer, check_says}
use Rattle.grammar.specs.declared.refusal.Refusal.{Refusal}
use Rattle.cases.specs.Write.{writes, Wrote}
use Rattle.cases.specs.Read.{reads, read_of, read_says}
use Rattle.promises.proofs.Worked.{L}
use Rattle.rows.specs.WriteRow.{writes_row, WroteRow}
use Rattle.rows.specs.WriteRow as Written
use Rattle.rows.specs.ReadRow.{gather, gotten, reads_row, GotRow}
use Rattle.rows.specs.Reader.{next, next_of, Strode}
use Rattle.rows.specs.declared.reader.Stride.{Stride}
use Rattle.cases.proofs.Values.{check_is, wrote_is, read_is}
use Rattle.rows.proofs.Outcomes.{done_same}
use Rattle.rows.proofs.Values.{wrote_row_is, got_row_is, strode_is}

-- words that no case here has
abbrev blank : List ℕ
blank = 7 ∷ 7 ∷ 7 ∷ 7 ∷ []

-- or of below 2 and nats; a pool of two words
abbrev two_or_nats : List ℕ
two_or_nats = 0 ∷ 2 ∷ 0 ∷ 1 ∷ 0 ∷ 0 ∷ 4 ∷ 0 ∷ 1 ∷ []

abbrev two_words : List ℕ
two_words = 2 ∷ 0 ∷ 2 ∷ []

abbrev words : List ℕ
words = 3 ∷ 4 ∷ []

-- what the definitions give: L is accepted, L at 0 is 0 0, L at 1 is 1 0 0 0, and 1 0 0 0 is number 1; the row of 0, 0 is 0 0 0 0
computed :
    (verdict L [] ≡ accepted)
    × (writes L [] 5 0 4 ≡ Ok 2)
    × (over (Walk.cells (walk (rules_of L []) 200 0 5 0)) blank ≡ 0 ∷ 0 ∷ 7 ∷ 7 ∷ [])
    × (over (Walk.cells (walk (rules_of L []) 200 0 5 1)) blank ≡ 1 ∷ 0 ∷ 0 ∷ 0 ∷ [])
    × (writes L [] 5 1 4 ≡ Ok 4)
    × (reads L [] 5 (1 ∷ 0 ∷ 0 ∷ 0 ∷ []) ≡ Ok 1)
unfolding walking fitted opening writes over front_of whole_of reads
computed = (refl, refl, refl, refl, refl, refl)

computed_rows :
    (writes_row L [] 5 4 (0 ∷ 0 ∷ []) ≡ done 2 4)
    × (over (Written.row_of (rules_of L []) 5 (0 ∷ 0 ∷ [])) blank ≡ 0 ∷ 0 ∷ 0 ∷ 0 ∷ [])
    × (reads_row L [] 5 4 (0 ∷ 0 ∷ 0 ∷ 0 ∷ []) ≡ done 2 4)
    × (over (gotten (gather (rules_of L []) 5 4 (0 ∷ 0 ∷ 0 ∷ 0 ∷ []))) blank ≡ 0 ∷ 0 ∷ 7 ∷ 7 ∷ [])
    × (over (gotten (gather (rules_of L []) 5 4 (1 ∷ 0 ∷ 0 ∷ 0 ∷ []))) blank ≡ 1 ∷ 7 ∷ 7 ∷ 7 ∷ [])
    × (next_of L [] 5 (0 ∷ 0 ∷ []) 0 ≡ hands 0 2)
unfolding walking fitted front_of opening writes_row Written.in_turn Written.row_of gather reads_row over next next_of
computed_rows = (refl, refl, refl, refl, refl, refl)

-- a tag that changes with the number, and a pool word that does
computed_cells :
    (over (Walk.cells (walk (rules_of two_or_nats []) 200 0 2 1)) blank ≡ 1 ∷ 0 ∷ 7 ∷ 7 ∷ [])
    × (over (Walk.cells (walk (rules_of two_words words) 200 0 0 1)) blank ≡ 4 ∷ 7 ∷ 7 ∷ 7 ∷ [])
unfolding walking over
computed_cells = (refl, refl)

-- ---- one that refuses everything
pub check_refuses_everything : (r : Refusal) (k : ℕ) → answer (refused r k) ≡ check_says L [] → ⊥
check_refuses_everything r k h = let e = check_is _ _ h ∙ computed.0 in let z : ◌≡◌ {A = ℕ} 0 1 = cc in omega arith

pub refuses_everything : {last : List ℕ} {r : Refusal} {k : ℕ} → Wrote L [] 5 0 blank last (refused r k) → ⊥
refuses_everything h = let e = wrote_is h ∙ computed.1 in let z : ◌≡◌ {A = ℕ} 0 1 = cc in omega arith

pub read_refuses_everything : (r : Refusal) (k : ℕ) → read_of (refused r k) ≡ read_says L [] 5 (1 ∷ 0 ∷ 0 ∷ 0 ∷ []) → ⊥
read_refuses_everything r k h = let e = read_is _ _ _ _ h ∙ computed.5 in let z : ◌≡◌ {A = ℕ} 0 1 = cc in omega arith

pub row_refuses_everything : {last : List ℕ} {r : Refusal} {k item : ℕ} → WroteRow L [] 5 (0 ∷ 0 ∷ []) blank last (refused_at r k item) → ⊥
row_refuses_everything h = let e = wrote_row_is h ∙ computed_rows.0 in let z : ◌≡◌ {A = ℕ} 0 1 = cc in omega arith

pub row_read_refuses_everything : {last : List ℕ} {r : Refusal} {k item : ℕ} → GotRow L [] 5 (0 ∷ 0 ∷ 0 ∷ 0 ∷ []) blank last (refused_at r k item) → ⊥
row_read_refuses_everything h = let e = got_row_is h ∙ computed_rows.2 in let z : ◌≡◌ {A = ℕ} 0 1 = cc in omega arith

pub reader_refuses_everything : {r : Refusal} {k at : ℕ} → Strode L [] 5 (0 ∷ 0 ∷ []) 0 (refused r k) at → ⊥
reader_refuses_everything h = let e = ap (λ (x : Stride). x.answer) (strode_is _ _ _ _ _ h) ∙ computed_rows.5 in let z : ◌≡◌ {A = ℕ} 0 1 = cc in omega arith

-- ---- number 0, or the same cells, each time
pub number_0_each_time : read_of (Ok 0) ≡ read_says L [] 5 (1 ∷ 0 ∷ 0 ∷ 0 ∷ []) → ⊥
number_0_each_time h = let e : ◌≡◌ {A = Found} (Ok 0) (Ok 1) = read_is _ _ _ _ h ∙ computed.5 in let z : ◌≡◌ {A = ℕ} 0 1 = cc in omega arith

pub zeros_stored : {m c : ℕ} → GotRow L [] 5 (1 ∷ 0 ∷ 0 ∷ 0 ∷ []) blank (0 ∷ 7 ∷ 7 ∷ 7 ∷ []) (done m c) → ⊥
zeros_stored h = let e = h.holds ∙ computed_rows.4 in let z : ◌≡◌ {A = ℕ} 0 1 = cc in omega arith

pub same_cells_each_time : {k : ℕ} → Wrote L [] 5 1 blank (0 ∷ 0 ∷ 7 ∷ 7 ∷ []) (Ok k) → ⊥
same_cells_each_time h = let e = h.holds ∙ computed.3 in let z : ◌≡◌ {A = ℕ} 0 1 = cc in omega arith

pub same_tag_each_time : {k : ℕ} → Wrote two_or_nats [] 2 1 blank (0 ∷ 0 ∷ 7 ∷ 7 ∷ []) (Ok k) → ⊥
same_tag_each_time h = let e = h.holds ∙ computed_cells.0 in let z : ◌≡◌ {A = ℕ} 0 1 = cc in omega arith

pub same_word_each_time : {k : ℕ} → Wrote two_words words 0 1 blank (3 ∷ 7 ∷ 7 ∷ 7 ∷ []) (Ok k) → ⊥
same_word_each_time h = let e = h.holds ∙ computed_cells.1 in let z : ◌≡◌ {A = ℕ} 3 4 = cc in omega arith

-- ---- done, and nothing written
pub done_and_nothing_written : {k : ℕ} → Wrote L [] 5 0 blank blank (Ok k) → ⊥
done_and_nothing_written h = let e = h.holds ∙ computed.2 in let z : ◌≡◌ {A = ℕ} 7 0 = cc in omega arith

pub row_done_and_nothing_written : {m c : ℕ} → WroteRow L [] 5 (0 ∷ 0 ∷ []) blank blank (done m c) → ⊥
row_done_and_nothing_written h = let e = h.holds ∙ computed_rows.1 in let z : ◌≡◌ {A = ℕ} 7 0 = cc in omega arith

pub row_done_and_nothing_stored : {m c : ℕ} → GotRow L [] 5 (0 ∷ 0 ∷ 0 ∷ 0 ∷ []) blank blank (done m c) → ⊥
row_done_and_nothing_stored h = let e = h.holds ∙ computed_rows.3 in let z : ◌≡◌ {A = ℕ} 7 0 = cc in omega arith

-- ---- item 0, and then pretending
pub item_0_and_pretends : {m c : ℕ} → WroteRow L [] 5 (0 ∷ 0 ∷ []) blank (0 ∷ 0 ∷ 7 ∷ 7 ∷ []) (done m c) → ⊥
item_0_and_pretends h = let e = h.holds ∙ computed_rows.1 in let z : ◌≡◌ {A = ℕ} 7 0 = cc in omega arith

pub item_0_read_and_pretends : {m c : ℕ} → GotRow L [] 5 (0 ∷ 0 ∷ 0 ∷ 0 ∷ []) blank (0 ∷ 7 ∷ 7 ∷ 7 ∷ []) (done m c) → ⊥
item_0_read_and_pretends h = let e = h.holds ∙ computed_rows.3 in let z : ◌≡◌ {A = ℕ} 7 0 = cc in omega arith

-- ---- a made-up count
pub made_up_count : {last : List ℕ} → Wrote L [] 5 1 blank last (Ok 3) → ⊥
made_up_count h = let e : ◌≡◌ {A = Written} (Ok 3) (Ok 4) = wrote_is h ∙ computed.4 in let z : ◌≡◌ {A = ℕ} 3 4 = cc in omega arith

pub row_made_up_count : {last : List ℕ} → WroteRow L [] 5 (0 ∷ 0 ∷ []) blank last (done 2 3) → ⊥
row_made_up_count h = let z : ◌≡◌ {A = ℕ} 3 4 = (done_same (wrote_row_is h ∙ computed_rows.0)).1 in omega arith

pub row_read_made_up_count : {last : List ℕ} → GotRow L [] 5 (0 ∷ 0 ∷ 0 ∷ 0 ∷ []) blank last (done 1 4) → ⊥
row_read_made_up_count h = let z : ◌≡◌ {A = ℕ} 1 2 = (done_same (got_row_is h ∙ computed_rows.2)).0 in omega arith
