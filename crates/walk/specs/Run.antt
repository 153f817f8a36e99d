-- The walk that reads. "Reading walks the same nodes from cells."
--   Read     the number, the cells that the case may still have, and the cells after it; or the first of 13, 14 and 15
--   then, fit, cell_of   what is read after a part, or of a cell
--   follow   what a tree reads, given what its parts read
--   run      what is read from node i, with a depth left
-- q is how many cells the case may still have, cs the cells to come; `off` is what the shifts above take off the first cell. Numbers have no limit here.
-- Assumes nothing.
use Rattle.std.specs.Prelude.{Bool, true, false, List, [], ◌∷◌, ℕ, zero, suc, ◌+◌, ◌-◌, leb}
use Rattle.grammar.specs.declared.refusal.Refusal.{Refusal}
use Rattle.grammar.specs.declared.refusal.Refusal.TheVariants.{TooDeep, NoRoom, NotACase}
use Rattle.grammar.specs.Rule.{Tree, done, fails, takes, reads, Rule}

pub data Read : Type 0 where
  read : ℕ → ℕ → List ℕ → Read
  wrong : Refusal → Read

abbrev pub then : Read → (ℕ → ℕ → List ℕ → Read) → Read
then (read m q cs) f = f m q cs
then (wrong r) f = wrong r

-- "a cell less than k under a shift"
abbrev pub fit : Bool → (ℕ → ℕ → List ℕ → Read) → ℕ → ℕ → List ℕ → Read
fit true f c q cs = f c q cs
fit false f c q cs = wrong NotACase

-- "Needing cell 65,537 is 14 even where the slice ends there"; "15: the cells run out"
unfoldable pub cell_of : ℕ → ℕ → List ℕ → (ℕ → ℕ → List ℕ → Read) → Read
cell_of off zero cs f = wrong NoRoom
cell_of off (suc q) [] f = wrong NotACase
cell_of off (suc q) (c ∷ cs) f = fit (leb off c) f (c - off) q cs

-- go off p q cs: what is read of part p
unfoldable pub follow : (ℕ → ℕ → ℕ → List ℕ → Read) → ℕ → Tree → ℕ → List ℕ → Read
follow go off (done n) q cs = read n q cs
follow go off fails q cs = wrong NotACase
follow go off (takes f) q cs = cell_of off q cs (λ c. follow go 0 (f c))
follow go off (reads p k f) q cs = then (go (off + k) p q cs) (λ m. follow go 0 (f m))

unfoldable pub run : (ℕ → Rule) → ℕ → ℕ → ℕ → ℕ → List ℕ → Read
run g zero off i q cs = wrong TooDeep
run g (suc d) off i q cs = follow (run g d) off (g i).tree q cs
