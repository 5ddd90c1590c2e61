use Rattle.std.proofs.Common.{sym, subst}
use Rattle.expr.specs.declared.code.Code.TheVariants.{Add, Subtract}
use Rattle.lines.specs.Parts.{Adding, by_plus, by_minus}
use Rattle.lines.proofs.parser.sums.adding.Goals as goal

pub returns-in-Plus : goal.returns-in-Plus
returns-in-Plus c = subst (λ s. Adding s Add) (sym c.in-Plus.is) by_plus

pub returns-in-Minus : goal.returns-in-Minus
returns-in-Minus c = subst (λ s. Adding s Subtract) (sym c.in-Minus.is) by_minus
