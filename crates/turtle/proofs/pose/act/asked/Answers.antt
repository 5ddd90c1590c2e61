use Rattle.turtle.proofs.Steps.{first}
use Rattle.turtle.proofs.pose.act.asked.Goals as goal

pub returns-else-next-eq0 : goal.returns-else-next-eq0
returns-else-next-eq0 c = let m = c.args.next in first m c.if-next-eq0.false
