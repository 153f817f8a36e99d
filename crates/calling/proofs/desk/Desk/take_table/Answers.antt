-- `calling::desk::Desk::take_table` takes both lines, and knows a table where both can be read.
-- Assumes nothing.
use mathlib.Core.Path.{◌∙◌, ap}
use Rattle.texts.proofs.page.Putting.{none, told}
use Rattle.calling.specs.Desk.{known_of}
use Rattle.calling.specs.Input.{after}
use Rattle.calling.proofs.Input.{next_within}
use Rattle.calling.proofs.Tables.{said_not, said_none}
use Rattle.calling.proofs.desk.Desk.take_table.Goals as goal

pub after-next-requires : goal.after-next-requires
after-next-requires c =
    next_within _ _ c.after-middle.ensures c.requires

pub returns-then-is_none : goal.returns-then-is_none
unfolding known_of
returns-then-is_none c =
    record {
      to = c.after-next.ensures ∙ ap (after c.args.text.now) c.after-middle.ensures;
      knows = c.sizes_at-self.ensures;
      puts = told (said_not _ _ _ c.sizes_at-self.ensures c.is_none.ensures c.if-is_none.true) c.unreadable.ensures;
    }

pub returns-else-is_none : goal.returns-else-is_none
unfolding known_of
returns-else-is_none c =
    record {
      to = c.after-next.ensures ∙ ap (after c.args.text.now) c.after-middle.ensures;
      knows = c.sizes_at-self.ensures;
      puts = told (said_none _ _ _ c.sizes_at-self.ensures c.is_none.ensures c.if-is_none.false) none;
    }
