-- The bytes of a record.
use Rattle.std.proofs.Common.{◌≡◌, ℕ, ◌/◌, ◌%◌, [], ◌∷◌}
use native.Mathlib.Nat.{div-div-eq-div-mul}
use Rattle.sheet.specs.Records.{last_bytes}

-- the bytes of a number of 64 bits
pub big_endian : (n : ℕ) → (n / 72057594037927936 % 256) ∷ (n / 281474976710656 % 256) ∷ (n / 1099511627776 % 256) ∷ (n / 4294967296 % 256)
    ∷ (n / 16777216 % 256) ∷ (n / 65536 % 256) ∷ (n / 256 % 256) ∷ (n % 256) ∷ [] ≡ last_bytes 8 n
big_endian n = simp div-div-eq-div-mul
