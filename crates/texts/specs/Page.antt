-- The page that bytes wait on.
--   page_bytes          how many it holds
--   place              where the next byte goes: to the front again once a full page is written out
--   page_after, waiting what the page holds once a text is put on it, byte by byte, and how many bytes wait there then
--   Puts               a text that is put on a page
--   Waits              all of a text was put on a page on which nothing waited
-- Assumes nothing.
use Rattle.std.specs.Prelude.{◌≡◌, cond, List, [], ◌∷◌, ℕ, ◌+◌, ltb, set}
use Rattle.texts.specs.declared.page.Page.{Page}

abbrev pub page_bytes : ℕ
page_bytes = 65536

unfoldable pub place : ℕ → ℕ
place used = cond (ltb used page_bytes) used 0

unfoldable pub page_after : List ℕ → List ℕ → ℕ → List ℕ
page_after [] page used = page
page_after (b ∷ bs) page used = page_after bs (set page (place used) b) (place used + 1)

unfoldable pub waiting : List ℕ → ℕ → ℕ
waiting [] used = used
waiting (b ∷ bs) used = waiting bs (place used + 1)

pub record Puts (text : List ℕ) (old last : Page) : Type 0 where
  pub page : last.bytes ≡ page_after text old.bytes old.used
  pub waits : last.used ≡ waiting text old.used

pub record Waits (text : List ℕ) (page : Page) : Type 0 where
  pub old : Page
  pub none : old.used ≡ 0
  pub puts : Puts text old page
