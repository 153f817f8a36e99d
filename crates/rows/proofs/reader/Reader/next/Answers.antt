-- `rows::reader::Reader::next` is `stride_at` at the reader's place.
-- Assumes nothing.
use mathlib.Core.Path.{refl}
use Rattle.rows.proofs.Values.{strode}
use Rattle.rows.proofs.reader.Reader.next.Goals as goal

pub returns : goal.returns
returns c = (strode _ _ _ _ _ c.stride_at-s.ensures, refl)
