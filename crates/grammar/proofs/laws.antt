-- A file a kind: it keeps the law, where its steps lead, and what else its checks leave. And of all kinds, an entry each, in the order of `kinds`:
--   rules     their rules, opened by one name; ruling also what those are made of
--   laws      each keeps the law
--   lowers    all steps lead to lower nodes but again's, which goes up to its fix
--   plains    all but except are no excepts
-- Assumes nothing.
pub mod Below
pub mod Nats
pub mod Pool
pub mod Shift
pub mod Or
pub mod Cons
pub mod Dep
pub mod Except
pub mod Fix
pub mod Again
use mathlib.Core.Path.{refl}
use mathlib.Core.Bool.{false≢true}
use Rattle.lists.specs.Lists.{has, every}
use Rattle.grammar.specs.Refusals.{number_of}
use Rattle.grammar.specs.Checks.{different, total}
use Rattle.grammar.specs.kinds.{kinds, unknown}
use Rattle.grammar.specs.kinds.Below.{below_rule}
use Rattle.grammar.specs.kinds.Nats.{nats_rule}
use Rattle.grammar.specs.kinds.Pool.{place_of, pool_rule}
use Rattle.grammar.specs.kinds.Shift.{shift_rule}
use Rattle.grammar.specs.kinds.Or.{or_rule}
use Rattle.grammar.specs.kinds.Cons.{cons_rule}
use Rattle.grammar.specs.kinds.Dep.{seconds_of, dep_rule}
use Rattle.grammar.specs.kinds.Except.{except_rule}
use Rattle.grammar.specs.kinds.Fix.{pass_rule}
use Rattle.grammar.proofs.KindLaw.{KindLaw, Lower, Plain, All, AllBut}
use Rattle.grammar.proofs.laws.Below.{below_law, below_lower, below_plain}
use Rattle.grammar.proofs.laws.Nats.{nats_law, nats_lower, nats_plain}
use Rattle.grammar.proofs.laws.Pool.{pool_law, pool_lower, pool_plain}
use Rattle.grammar.proofs.laws.Shift.{shift_law, shift_lower, shift_plain}
use Rattle.grammar.proofs.laws.Or.{or_law, or_lower, or_plain}
use Rattle.grammar.proofs.laws.Cons.{cons_law, cons_lower, cons_plain}
use Rattle.grammar.proofs.laws.Dep.{dep_law, dep_lower, dep_plain}
use Rattle.grammar.proofs.laws.Except.{except_law, except_lower}
use Rattle.grammar.proofs.laws.Fix.{fix_law, fix_lower, fix_plain}
use Rattle.grammar.proofs.laws.Again.{again_law, again_plain}

unfoldable pub rules : Unit {0}
unfolding below_rule nats_rule pool_rule shift_rule or_rule cons_rule dep_rule except_rule pass_rule
rules = tt

unfoldable pub ruling : Unit {0}
unfolding rules has place_of different every total seconds_of
ruling = tt

pub laws : All KindLaw kinds
laws = (below_law, (nats_law, (pool_law, (shift_law, (or_law, (cons_law, (dep_law, (except_law, (fix_law, (again_law, tt))))))))))

-- no check of an unknown kind is passed
pub unknown_law : KindLaw unknown
unfolding number_of
unknown_law = record { gives = λ v z. refl; sees = λ v z h. refl; lawful = λ v z r h. absurd (false≢true h.0); fit = λ v z f h. absurd (false≢true h.0) }

pub lowers : AllBut 9 Lower kinds
lowers = (below_lower, (nats_lower, (pool_lower, (shift_lower, (or_lower, (cons_lower, (dep_lower, (except_lower, (fix_lower, tt)))))))))

pub unknown_lower : Lower unknown
unknown_lower v z h = tt

pub plains : AllBut 7 Plain kinds
plains = (below_plain, (nats_plain, (pool_plain, (shift_plain, (or_plain, (cons_plain, (dep_plain, (fix_plain, (again_plain, tt)))))))))
