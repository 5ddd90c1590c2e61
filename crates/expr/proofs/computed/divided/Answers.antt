use Rattle.std.proofs.Common.{eqb, nat_abs, sym, ap, ◌∙◌}
use Rattle.std.proofs.lemmas.Bool.{cond-false}
use Rattle.expr.specs.Values.{ranged, wrong}
use Rattle.expr.proofs.Wide.{quotient, nonzero}
use Rattle.expr.proofs.computed.divided.Goals as goal

pub returns : goal.returns
returns c =
    let x = c.args.x in
    let y = c.args.y in
    c.ranged.ensures
    ∙ ap ranged (quotient x y _ _ c.ranges.x c.ranges.y c.from.ensures c.from-2.ensures)
    ∙ sym (cond-false (eqb (nat_abs y) 0) (wrong 31) _ (nonzero y c.if-y-eq0.false))
