-- `checked::fits::asked` is the test of a number.
-- Assumes nothing.
use Rattle.checked.proofs.Fitting.{asked_small}
use Rattle.checked.proofs.fits.asked.Goals as goal

pub returns-then-number-lt-LARGEST : goal.returns-then-number-lt-LARGEST
returns-then-number-lt-LARGEST c =
    asked_small c.args.size c.args.number c.if-number-lt-LARGEST.true
