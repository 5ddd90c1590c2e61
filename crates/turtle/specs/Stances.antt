-- The places, directions, poses and segments of the code, and how a turn changes a pose.
use Rattle.std.specs.Prelude.{◌≡◌, ℕ, ◌<◌}
use Rattle.turtle.specs.Vectors.{Vector, vec}
use Rattle.turtle.specs.Turns.{faces, rotated}
use Rattle.turtle.specs.Poses.{Stance, Stroke}
use Rattle.turtle.specs.declared.place.Place.{Place}
use Rattle.turtle.specs.declared.direction.Direction.{Direction}
use Rattle.turtle.specs.declared.direction.Direction.TheVariants.{PlusX, MinusX, PlusY, MinusY, PlusZ, MinusZ}
use Rattle.turtle.specs.declared.pose.Pose.{Pose}
use Rattle.turtle.specs.declared.segment.Segment.{Segment}
use Rattle.turtle.specs.declared.turn.Turn.{Turn}

abbrev pub point_of : Place → Vector
point_of p = vec p.x p.y p.z

abbrev pub number_of : Direction → ℕ
number_of PlusX = 0
number_of MinusX = 1
number_of PlusY = 2
number_of MinusY = 3
number_of PlusZ = 4
number_of MinusZ = 5

abbrev pub stance_of : Pose → Stance
stance_of p = record { place = point_of p.place; orientation = p.orientation }

abbrev pub stroke_of : Segment → Stroke
stroke_of s = record { start = point_of s.start; heading = number_of s.heading; length = s.length }

pub record Turned (s : Stance) (t : Turn) (s' : Stance) : Type 0 where
  pub place : s'.place ≡ s.place
  pub faces : faces s'.orientation ≡ rotated t (faces s.orientation)
  pub known : s'.orientation < 24
