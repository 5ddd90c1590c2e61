use Rattle.std.proofs.Common.{sym, subst}
use Rattle.expr.specs.declared.code.Code.TheVariants.{Multiply, Divide}
use Rattle.lines.specs.Parts.{Multiplying, by_times, by_over}
use Rattle.lines.proofs.parser.sums.multiplying.Goals as goal

pub returns-in-Times : goal.returns-in-Times
returns-in-Times c = subst (λ s. Multiplying s Multiply) (sym c.in-Times.is) by_times

pub returns-in-Over : goal.returns-in-Over
returns-in-Over c = subst (λ s. Multiplying s Divide) (sym c.in-Over.is) by_over
