use Rattle.turtle.specs.Stances.{point_of}
use Rattle.walk.proofs.Near.{near_greatest}
use Rattle.walk.proofs.bounds.greatest.Goals as goal

pub invariant_of-result : goal.invariant_of-result
invariant_of-result c =
    let a = c.args.a in
    let b = c.args.b in
    record { near = near_greatest (point_of a) (point_of b) _ _ _ a.near b.near c.greater.ensures c.greater-2.ensures c.greater-3.ensures }
