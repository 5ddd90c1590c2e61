use Rattle.std.proofs.Common.{arith}
use Rattle.turtle.proofs.Table.{ruled}
use Rattle.turtle.proofs.pose.turned.after.Goals as goal

pub returns : goal.returns
returns c =
    let e = ruled c.args.table.now c.args.orientation c.args.turn c.requires.tested (omega arith) in
    rw c.from.ensures record { known = e.0; rule = e.1 }
