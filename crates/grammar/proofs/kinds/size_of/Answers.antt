-- `grammar::kinds::size_of` is the word of the size that a word stands for.
-- Assumes nothing.
use Rattle.std.proofs.Common.{◌≡◌, arith}
use Rattle.numbers.specs.Size.{code_of}
use Rattle.numbers.proofs.size.SizeWords.{by_size}
use Rattle.grammar.proofs.kinds.size_of.Goals as goal

pub returns : goal.returns
returns c =
    by_size (λ z. c.min.result ≡ code_of z) c.args.s (λ l. omega (arith, c.min.ensures)) (λ l. omega (arith, c.min.ensures))
