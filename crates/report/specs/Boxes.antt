-- The box that bounds are.
use Rattle.turtle.specs.Vectors.{Vector}
use Rattle.turtle.specs.Stances.{point_of}
use Rattle.report.specs.declared.bounds.Bounds.{Bounds}

-- the least and the greatest coordinates
pub record Box : Type 0 where
  pub least : Vector
  pub greatest : Vector

abbrev pub box_of : Bounds → Box
box_of b = record { least = point_of b.least; greatest = point_of b.greatest }
