use Rattle.turtle.proofs.Steps.{near_y, near_z}
use Rattle.turtle.proofs.place.Place.ahead.Goals as goal

pub further-requires-2-clause-near : goal.further-requires-2-clause-near
further-requires-2-clause-near c = let p = c.args.self in near_y p.x p.y p.z p.near

pub further-requires-3-clause-near : goal.further-requires-3-clause-near
further-requires-3-clause-near c = let p = c.args.self in near_z p.x p.y p.z p.near
