-- `texts::page::Page::place` is to the front again once a full page is written out.
-- Assumes nothing.
use mathlib.Core.Path.{ap, ◌∙◌}
use Rattle.texts.specs.declared.page.Page.{Page}
use Rattle.texts.proofs.page.Putting.{place_in, place_front}
use Rattle.texts.proofs.page.Page.place.Goals as goal
use Rattle.texts.proofs.page.Page.place.Goals.{then-self-ge-PAGE_BYTES, else-self-ge-PAGE_BYTES}

pub returns-clause-place : goal.returns-clause-place
returns-clause-place c =
    elim c.if-self-ge-PAGE_BYTES.branch [
      | then-self-ge-PAGE_BYTES w ↦
          ap (λ (p : Page). p.used) w.self-is ∙ ap (λ (p : Page). p.used) w.flush.ensures ∙ place_front _ w.if-self-ge-PAGE_BYTES.true
      | else-self-ge-PAGE_BYTES w ↦ ap (λ (p : Page). p.used) w.self-is ∙ place_in _ w.if-self-ge-PAGE_BYTES.false
    ]
