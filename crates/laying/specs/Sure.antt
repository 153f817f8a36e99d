-- Nodes of which every case fits a room, found by widths: the most cells that a case may have.
--   Few       events that are all cells, and not more than a room
--   Sure      every case of node i fits a room and the depth
--   Bounded   every case of node i has at most w cells, where a depth of h is left
--   Width     what a width says of its node: nothing if it is not known
--   width_at   the width of a node, by a list of widths
--   Widths    a list of the first 32 nodes' widths; those of later nodes are not known
-- Assumes nothing.
use Rattle.std.specs.Prelude.{◌≡◌, List, map, ℕ, ◌≤◌, Option, Some, None, length, get_or}
use Rattle.grammar.specs.declared.entry.Entry.{Entry}
use Rattle.grammar.specs.Plan.{rule_in}
use Rattle.walk.specs.Walk.{Event, cell, walk, depth}
use Rattle.walk.specs.Room.{most}
use Rattle.walk.specs.Plan.{Visits}

pub record Few (es : List Event) (room : ℕ) : Type 0 where
  pub case : List ℕ
  pub shows : es ≡ map cell case
  pub few : length case ≤ room

pub record Sure (plan : List Entry) (i room : ℕ) : Type 0 where
  pub fits : (p : List ℕ) (n : ℕ) → Visits plan p i n → Few (walk (rule_in plan p) depth 0 i n) room

-- whatever the shifts above add
pub record Bounded (plan : List Entry) (i w h : ℕ) : Type 0 where
  pub fits : (p : List ℕ) (n up d : ℕ) → Visits plan p i n → h ≤ d → Few (walk (rule_in plan p) d up i n) w

-- a width that is known is no more than a case may have
pub record Width (plan : List Entry) (i : ℕ) (w : Option ℕ) (h : ℕ) : Type 0 where
  pub bounds : (k : ℕ) → w ≡ Some k → (k ≤ most) × Bounded plan i k h

abbrev pub width_at : List (Option ℕ) → ℕ → Option ℕ
width_at widths i = get_or widths i None

pub record Widths (plan : List Entry) (widths : List (Option ℕ)) (h : ℕ) : Type 0 where
  pub long : length widths ≡ 32
  pub at : (i : ℕ) → Width plan i (width_at widths i) h
