-- What reading an input answers, and leaves in the words lent for its table and pool.
--   shaped    the input that a shape stands for, with those words
--   Shapes    it is what the text asks for, and its numbers are readable
--   tabled, Tabled   the input that a table's line begins, with the words that it left; it is what the text asks for
--   Behind    what was read behind a table's line: with the words that the line left, it is the text's shape
-- Assumes nothing.
use Rattle.std.specs.Prelude.{◌≡◌, Bool, true, List, ℕ, take, Option, Some, None}
use Rattle.printing.specs.Input.{Input, unclear, pool_line, with_numbers, with_pool, numbers_from, readable, input_of}
use Rattle.printing.specs.declared.shape.Shape.{Shape}
use Rattle.printing.specs.declared.shape.TableLine.{TableLine}

abbrev pub shaped : List ℕ → List ℕ → List ℕ → Option Shape → Input
shaped text table pool (Some s) = with_numbers (take s.table table) (take s.pool pool) s.start (numbers_from text s.from)
shaped text table pool None = unclear

abbrev pub each_readable : List ℕ → Option Shape → Bool
each_readable text (Some s) = readable (numbers_from text s.from)
each_readable text None = true

pub record Shapes (text table pool : List ℕ) (r : Option Shape) : Type 0 where
  pub is : shaped text table pool r ≡ input_of text
  pub each : each_readable text r ≡ true

-- ---- line after line
abbrev pub tabled : List ℕ → List ℕ → Option TableLine → Input
tabled text table (Some first) = with_pool text (take first.count table) (pool_line text first.next)
tabled text table None = unclear

pub record Tabled (text table : List ℕ) (r : Option TableLine) : Type 0 where
  pub is : tabled text table r ≡ input_of text

pub record Behind (text : List ℕ) (first : TableLine) (pool : List ℕ) (r : Option Shape) : Type 0 where
  pub shapes : (table : List ℕ) → Tabled text table (Some first) → Shapes text table pool r
