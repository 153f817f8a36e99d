-- The bytes that texts are made of.
--   lf, space, digit0, digit9    line feed, space, '0', '9'
--   is_digit                      '0' to '9'
--   bytes                        the bytes of an ASCII text
-- Assumes nothing.
use Rattle.std.specs.Prelude.{Bool, ◌&&◌, List, [], ◌∷◌, ℕ, leb}
use Prim.Native.Char.{code}
use Prim.Native.String.{String}

abbrev pub lf : ℕ
lf = 10

abbrev pub space : ℕ
space = 32

abbrev pub digit0 : ℕ
digit0 = 48

abbrev pub digit9 : ℕ
digit9 = 57

abbrev pub is_digit : ℕ → Bool
is_digit b = leb digit0 b && leb b digit9

abbrev pub bytes : String → List ℕ
bytes String.[] = []
bytes (String.◌∷◌ c s) = code c ∷ bytes s
