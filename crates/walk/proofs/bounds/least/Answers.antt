use Rattle.turtle.specs.Stances.{point_of}
use Rattle.walk.proofs.Near.{near_least}
use Rattle.walk.proofs.bounds.least.Goals as goal

pub invariant_of-result : goal.invariant_of-result
invariant_of-result c =
    let a = c.args.a in
    let b = c.args.b in
    record { near = near_least (point_of a) (point_of b) _ _ _ a.near b.near c.lesser.ensures c.lesser-2.ensures c.lesser-3.ensures }
