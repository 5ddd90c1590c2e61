use Rattle.turtle.proofs.Turning.{turning}
use Rattle.turtle.proofs.pose.Pose.turned.Goals as goal

pub returns-clause-laws : goal.returns-clause-laws
returns-clause-laws c = turning
