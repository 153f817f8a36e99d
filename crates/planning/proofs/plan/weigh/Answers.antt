-- `planning::plan::weigh` is the row of node n, and its entry.
-- Assumes nothing.
use mathlib.Core.Path.{refl, sym, ◌∙◌}
use Rattle.std.proofs.lemmas.Result.{err_from_is_err_and}
use Rattle.grammar.proofs.KindWords.{row_unknown, row_goes_on, row_spare}
use Rattle.planning.proofs.plan.weigh.Goals as goal

pub returns-in_err-kind : goal.returns-in_err-kind
returns-in_err-kind c =
    let p = err_from_is_err_and c.from_residual.result c.from_residual.ensures.1 in
    let f = c.in_err-kind.ensures in
    rw (p.1, p.2, f.0) (sym (row_unknown _ _ _ _ f.1))

pub returns-in_err-asks : goal.returns-in_err-asks
returns-in_err-asks c =
    let p = err_from_is_err_and c.from_residual-in_err-asks.result c.from_residual-in_err-asks.ensures.1 in
    let f = c.in_err-asks.ensures in
    rw (p.1, p.2, f.1) (sym (row_spare _ _ _ _ (sym (rw c.in_ok-kind.ensures at c.spare_words.ensures) ∙ f.0)))

pub returns-in_err-size : goal.returns-in_err-size
returns-in_err-size c =
    let p = err_from_is_err_and c.from_residual-in_err-size.result c.from_residual-in_err-size.ensures.1 in
    let s = rw c.in_ok-kind.ensures at c.spare_words.ensures in
    rw (p.1, p.2) (sym (c.in_err-size.ensures ∙ row_goes_on _ _ _ _ (sym s ∙ c.in_ok-asks.ensures)))

pub returns : goal.returns
returns c =
    let s = rw c.in_ok-kind.ensures at c.spare_words.ensures in (
      record { kind = c.in_ok-kind.ensures; a = refl; b = refl },
      sym (c.in_ok-size.ensures ∙ row_goes_on _ _ _ _ (sym s ∙ c.in_ok-asks.ensures)),
    )
