-- `calling::desk::Desk::answer_call` lends parts that lie within its line and its words.
-- Assumes nothing.
use mathlib.Core.Path.{◌∙◌, refl}
use Rattle.texts.proofs.page.Putting.{told}
use Rattle.calling.specs.Desk.{known_of}
use Rattle.calling.proofs.Lines.{word_is}
use Rattle.calling.proofs.Named.{line_unknown, line_call}
use Rattle.calling.proofs.desk.Desk.answer_call.Goals as goal

pub returns-in_default-clause-said : goal.returns-in_default-clause-said
returns-in_default-clause-said c =
    told (line_unknown _ _ c.in_default.is) c.unreadable.ensures

pub returns-clause-said : goal.returns-clause-said
returns-clause-said c =
    told (line_call c.args.self.now c.args.line.now c.in-Some.is (c.word_size-size.ensures ∙ word_is c.args.line.now)) c.case_call.ensures

pub returns-clause-kept : goal.returns-clause-kept
unfolding known_of
returns-clause-kept c =
    refl
