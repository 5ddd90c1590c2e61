-- Orientations, and what a turn makes of one.
use Rattle.std.specs.Prelude.{ℕ, ◌/◌, ◌%◌, Bool, not, ◌&&◌, List, filter, ◌==◌, slice_index}
use Rattle.std.specs.List.{range_with_len}
use Rattle.turtle.specs.Vectors.{Vector, vector, negate, cross, same}
use Rattle.turtle.specs.declared.turn.Turn.{Turn}
use Rattle.turtle.specs.declared.turn.Turn.TheVariants.{Left, Right, Down, Up, RollLeft, RollRight, About}

-- the way ahead, and the way to the left
pub record Facing : Type 0 where
  pub ahead : Vector
  pub left : Vector

abbrev pub facing : Vector → Vector → Facing
facing a l = record { ahead = a; left = l }

abbrev pub up : Facing → Vector
up f = cross f.ahead f.left

-- what a turn makes of the two; up follows them
abbrev pub rotated : Turn → Facing → Facing
rotated Left f = facing f.left (negate f.ahead)
rotated Right f = facing (negate f.left) f.ahead
rotated Down f = facing (negate (up f)) f.left
rotated Up f = facing (up f) f.left
rotated RollLeft f = facing f.ahead (negate (up f))
rotated RollRight f = facing f.ahead (up f)
rotated About f = facing (negate f.ahead) (negate f.left)

-- the directions off the axis of a direction, in rising order
abbrev pub off_axis : ℕ → List ℕ
off_axis h = filter (λ d. not (d / 2 == h / 2)) (range_with_len 0 6)

-- an orientation is 4 × the direction ahead, plus the place of the direction to the left among those off the axis
abbrev pub faces : ℕ → Facing
faces n = facing (vector (n / 4)) (vector (slice_index (off_axis (n / 4)) (n % 4)))

abbrev pub faces_so : Facing → ℕ → Bool
faces_so f n = same (faces n).ahead f.ahead && same (faces n).left f.left

-- of the 24 orientations the one that faces so
unfoldable pub oriented : Facing → ℕ
oriented f = slice_index (filter (faces_so f) (range_with_len 0 24)) 0

-- the orientation after a turn
unfoldable pub reoriented : Turn → ℕ → ℕ
reoriented t n = oriented (rotated t (faces n))
