-- Numbers with their signs.
use Rattle.std.proofs.Common.{◌≡◌, ◌≤◌, true, false, List, ℕ, [], ◌∷◌, ◌++◌, decimal, ℤ, pos, negsuc, nat_abs, unsigned_abs, refl, arith, w32, to_z, of_z}
use lib.Signed.{lt_z}
use Rattle.std.specs.Fmt.{signed_decimal}
use Rattle.std.proofs.lemmas.Int.{to_z-of_z}
use Rattle.std.proofs.lemmas.Bool.Decides.{nat_tests}
use Rattle.turtle.specs.Vectors.{Vector}
use Rattle.turtle.specs.Poses.{all_in_bounds}
use Rattle.report.specs.Text.{spaced, Grows}
use Rattle.report.specs.Report.{range}
use Rattle.report.proofs.Growing.{then}

pub negative : (z : ℤ) → lt_z z (pos 0) ≡ true
    → (32 ∷ 45 ∷ []) ++ decimal (unsigned_abs z) ≡ spaced (signed_decimal z)
negative (pos n) h = grind arith
negative (negsuc n) h = refl

pub positive : (z : ℤ) → lt_z z (pos 0) ≡ false → (32 ∷ []) ++ decimal (unsigned_abs z) ≡ spaced (signed_decimal z)
positive (pos n) h = refl
positive (negsuc n) h = grind arith

pub near : (v : Vector) → all_in_bounds v ≡ true → (nat_abs v.x ≤ 30_000) × (nat_abs v.y ≤ 30_000) × (nat_abs v.z ≤ 30_000)
near v h = (grind (arith, nat_tests), grind (arith, nat_tests), grind (arith, nat_tests))

exact : (z : ℤ) → nat_abs z ≤ 30_000 → to_z w32 (of_z w32 z) ≡ z
exact (pos n) h = to_z-of_z w32 (pos n) (record { sfits = omega arith })
exact (negsuc n) h = to_z-of_z w32 (negsuc n) (record { sfits = omega arith })

-- what is written of a number that is passed in 32 bits
abbrev passed : ℤ → List ℕ
passed z = spaced (signed_decimal (to_z w32 (of_z w32 z)))

placed : {a b : List ℕ} (z : ℤ) → nat_abs z ≤ 30_000 → Grows a (passed z) b → Grows a (spaced (signed_decimal z)) b
placed z near g = rw (exact z near) at g

-- the two ends along an axis, put one after the other
pub along : {a b c : List ℕ} (y z : ℤ) → nat_abs y ≤ 30_000 → nat_abs z ≤ 30_000
    → Grows a (passed y) b → Grows b (passed z) c → Grows a (range y z) c
along y z near_y near_z p q = then (placed y near_y p) (placed z near_z q)
