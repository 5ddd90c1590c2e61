-- Where the turtle stands, and what it draws.
use Rattle.std.specs.Prelude.{ℕ, Bool, ◌&&◌, ℤ, pos, nat_le, unsigned_abs}
use Rattle.turtle.specs.Vectors.{Vector, vec}

-- a place, and the number of an orientation
pub record Stance : Type 0 where
  pub place : Vector
  pub orientation : ℕ

abbrev pub stance : ℤ → ℤ → ℤ → ℕ → Stance
stance x y z n = record { place = vec x y z; orientation = n }

-- at the origin, +y ahead, −x to the left
abbrev pub home : Stance
home = stance (pos 0) (pos 0) (pos 0) 9

-- a line from a place, in a direction, given by its number
pub record Stroke : Type 0 where
  pub start : Vector
  pub heading : ℕ
  pub length : ℕ

abbrev pub stroke : ℤ → ℤ → ℤ → ℕ → ℕ → Stroke
stroke x y z h n = record { start = vec x y z; heading = h; length = n }

-- within ±30,000
abbrev pub in_bounds : ℤ → Bool
in_bounds n = nat_le (unsigned_abs n) 30_000

abbrev pub all_in_bounds : Vector → Bool
all_in_bounds v = in_bounds v.x && (in_bounds v.y && in_bounds v.z)
