-- `asking::answers::end_line` ends a line by whether a word has changed.
-- Assumes nothing.
use Rattle.asking.proofs.Buffers.{end_changed, end_kept}
use Rattle.asking.proofs.answers.end_line.Goals as goal

pub returns-then-changed_from : goal.returns-then-changed_from
returns-then-changed_from c =
    search end_changed

pub returns-else-changed_from : goal.returns-else-changed_from
returns-else-changed_from c =
    search end_kept
