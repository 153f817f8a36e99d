-- The check inside a call: its verdict, and the plan of an accepted table.
--   Prepared   the verdict is the table's, in 01's values, and where it is accepted the plan holds its nodes and their sizes
--   Blank      an empty plan, with a row for each node of a table that is not too long
-- Assumes nothing.
use Rattle.std.specs.Prelude.{◌≡◌, List, length, replicate, ℕ, ◌≤◌}
use Rattle.grammar.specs.declared.entry.Entry.{Entry}
use Rattle.grammar.specs.Table.{nodes}
use Rattle.grammar.specs.Sizes.{size_at, scan, passed, sizes}
use Rattle.grammar.specs.Checked.{Checked}
use Rattle.grammar.specs.Plan.{blank, Planned}
use Rattle.grammar.specs.Verdict.{answer, check_says}
use Rattle.grammar.specs.Refusals.{Verdict, accepted}

pub record Blank (t : List ℕ) (plan : List Entry) : Type 0 where
  pub clear : plan ≡ replicate (length plan) blank
  pub short : length plan ≤ 256
  pub long : nodes t ≤ 256 → nodes t ≤ length plan

pub record Planning (t p : List ℕ) (plan : List Entry) : Type 0 where
  pub passes : scan t p (nodes t) ≡ passed (sizes t p)
  pub plans : Planned t (sizes t p) (nodes t) plan
  pub checked : Checked t p (size_at (sizes t p))
  pub short : length plan ≤ 256
  pub slight : length p ≤ 4096

pub record Prepared (t p : List ℕ) (plan : List Entry) (v : Verdict) : Type 0 where
  pub says : answer v ≡ check_says t p
  pub ready : v ≡ accepted → Planning t p plan
