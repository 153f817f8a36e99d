-- How far an input is answered.
--   known_in, known_of   the table that stands at the front of the words kept for it, and its pool
--   Tables    what taking a table from a place answers and puts on the page
--   Turns     what answering the line at a place does
-- Assumes nothing.
use Rattle.std.specs.Prelude.{◌≡◌, List, ℕ, ◌≤◌, length, take, Option, Some, None}
use Rattle.texts.specs.declared.page.Page.{Page}
use Rattle.texts.specs.Page.{Puts}
use Rattle.calling.specs.Calls.{Known, about, nothing}
use Rattle.calling.specs.Input.{after, table_at, table_text, said_at, next_at, next_known}
use Rattle.calling.specs.declared.sizes.Sizes.{Sizes}
use Rattle.calling.specs.declared.desk.Desk.{Desk}

abbrev pub known_in : Option Sizes → List ℕ → List ℕ → Known
known_in (Some s) table pool = about (take s.table table) (take s.pool pool)
known_in None table pool = nothing

unfoldable pub known_of : Desk → Known
known_of d = known_in d.known d.table d.pool

pub record Tables (text : List ℕ) (at : ℕ) (desk : Desk) (page page' : Page) (r : ℕ) : Type 0 where
  pub to : r ≡ after text (after text at)
  pub knows : known_of desk ≡ table_at text at
  pub puts : Puts (table_text (table_at text at)) page page'

pub record Turns (text : List ℕ) (at : ℕ) (desk desk' : Desk) (page page' : Page) (r : ℕ) : Type 0 where
  pub to : r ≡ next_at text at
  pub knows : known_of desk' ≡ next_known text at (known_of desk)
  pub puts : Puts (said_at text at (known_of desk)) page page'
  pub within : r ≤ length text
