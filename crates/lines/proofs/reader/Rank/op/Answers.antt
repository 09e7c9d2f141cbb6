use Rattle.std.proofs.Common.{rules}
use Rattle.lines.specs.declared.token.Sign.TheVariants as signs
use Rattle.lines.specs.Grammar.{Additive, Multiplicative}
use Rattle.lines.proofs.reader.Rank.op.Goals as goal

pub returns-in-Sum-Sign-Plus-default : goal.returns-in-Sum-Sign-Plus-default
returns-in-Sum-Sign-Plus-default c = (signs.Plus, search rules, rw c.in-Sum-Sign-Plus-default.is-0 Additive.plus)

pub returns-in-Sum-Sign-Minus-default : goal.returns-in-Sum-Sign-Minus-default
returns-in-Sum-Sign-Minus-default c = (signs.Minus, search rules, rw c.in-Sum-Sign-Minus-default.is-0 Additive.minus)

pub returns-in-Product-Sign-Times-default : goal.returns-in-Product-Sign-Times-default
returns-in-Product-Sign-Times-default c = (signs.Times, search rules, rw c.in-Product-Sign-Times-default.is-0 Multiplicative.times)

pub returns-in-Product-Sign-Over-default : goal.returns-in-Product-Sign-Over-default
returns-in-Product-Sign-Over-default c = (signs.Over, search rules, rw c.in-Product-Sign-Over-default.is-0 Multiplicative.over)
