use Rattle.turtle.specs.Stances.{stance_of}
use Rattle.turtle.proofs.Turning.{turned_so}
use Rattle.turtle.proofs.pose.Pose.act.Goals as goal

pub returns-in-Turn : goal.returns-in-Turn
returns-in-Turn c =
    let e = turned_so (stance_of c.args.self) (stance_of c.turned.result) c.in-Turn.turn c.turned.ensures.turned in
    rw (← c.from.ensures, ← c.in-Turn.ensures, e)
