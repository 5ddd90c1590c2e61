-- The box around places.
use Rattle.std.specs.Prelude.{cond, ℤ, Some, None, Option, int_le}
use Rattle.turtle.specs.Vectors.{Vector, vec}
use Rattle.report.specs.Boxes.{Box}

abbrev pub lesser : ℤ → ℤ → ℤ
lesser a b = cond (int_le a b) a b

abbrev pub greater : ℤ → ℤ → ℤ
greater a b = cond (int_le a b) b a

abbrev pub least_with : Vector → Vector → Vector
least_with u v = vec (lesser u.x v.x) (lesser u.y v.y) (lesser u.z v.z)

abbrev pub greatest_with : Vector → Vector → Vector
greatest_with u v = vec (greater u.x v.x) (greater u.y v.y) (greater u.z v.z)

-- the box around the place v, and around all that the box is around, if there is one
abbrev pub around : Option Box → Vector → Box
around None v = record { least = v; greatest = v }
around (Some b) v = record { least = least_with b.least v; greatest = greatest_with b.greatest v }
