-- `checked::copy::copy` puts words over the front of a buffer.
-- Assumes nothing.
use Rattle.checked.proofs.Copying.{copied}
use Rattle.checked.proofs.copy.copy.Goals as goal

pub returns : goal.returns
returns c = copied _ _ c.copy_from_slice.ensures.after c.requires
