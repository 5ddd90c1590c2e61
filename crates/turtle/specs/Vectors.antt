-- Vectors of whole numbers, and the six directions.
use Rattle.std.specs.Prelude.{ℕ, Bool, ◌&&◌, [], ◌∷◌, ℤ, pos, negsuc, ◌+ℤ◌, ◌-ℤ◌, ◌*ℤ◌, neg_ℤ, ◌==◌, slice_index_or, unsigned_abs}

pub record Vector : Type 0 where
  pub x : ℤ
  pub y : ℤ
  pub z : ℤ

abbrev pub vec : ℤ → ℤ → ℤ → Vector
vec x y z = record { x = x; y = y; z = z }

abbrev pub negate : Vector → Vector
negate v = vec (neg_ℤ v.x) (neg_ℤ v.y) (neg_ℤ v.z)

abbrev pub plus : Vector → Vector → Vector
plus v w = vec (v.x +ℤ w.x) (v.y +ℤ w.y) (v.z +ℤ w.z)

abbrev pub times : ℤ → Vector → Vector
times n v = vec (n *ℤ v.x) (n *ℤ v.y) (n *ℤ v.z)

abbrev pub dot : Vector → Vector → ℤ
dot v w = v.x *ℤ w.x +ℤ v.y *ℤ w.y +ℤ v.z *ℤ w.z

abbrev pub cross : Vector → Vector → Vector
cross v w =
    vec (v.y *ℤ w.z -ℤ v.z *ℤ w.y)
    (v.z *ℤ w.x -ℤ v.x *ℤ w.z)
    (v.x *ℤ w.y -ℤ v.y *ℤ w.x)

-- the directions by number: +x, −x, +y, −y, +z, −z
abbrev pub vector : ℕ → Vector
vector d =
    slice_index_or
    (vec (pos 1) (pos 0) (pos 0)
    ∷ vec (negsuc 0) (pos 0) (pos 0)
    ∷ vec (pos 0) (pos 1) (pos 0)
    ∷ vec (pos 0) (negsuc 0) (pos 0)
    ∷ vec (pos 0) (pos 0) (pos 1)
    ∷ vec (pos 0) (pos 0) (negsuc 0)
    ∷ [])
    d (vec (pos 0) (pos 0) (pos 0))

-- whether two vectors are the same
abbrev pub same : Vector → Vector → Bool
same v w = unsigned_abs (v.x -ℤ w.x) == 0 && (unsigned_abs (v.y -ℤ w.y) == 0 && unsigned_abs (v.z -ℤ w.z) == 0)
