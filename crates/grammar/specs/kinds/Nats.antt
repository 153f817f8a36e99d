-- 1 nats | none | both zero (3) | endless
-- Assumes nothing.
use Rattle.std.specs.Prelude.{false, []}
use Rattle.numbers.specs.Size.{endless}
use Rattle.grammar.specs.Rule.{done, Rule, cell_rule}
use Rattle.grammar.specs.Kind.{Kind}

-- "below, nats: cell n"
unfoldable pub nats_rule : Rule
nats_rule = cell_rule endless (λ n. n) (λ c. done c)

abbrev pub nats : Kind
nats = record { uses_a = false; uses_b = false; checks = λ v z. []; rule = λ a b p z. nats_rule }
