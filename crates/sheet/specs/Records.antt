-- The record of a segment: 8 bytes.
use Rattle.std.specs.Prelude.{ℕ, zero, suc, ◌+◌, ◌-◌, ◌*◌, ◌/◌, ◌%◌, ◌^◌, cond, List, [], ◌∷◌, ◌++◌, ℤ, pos, negsuc, neg_ℤ, fold, nat_lt}
use Rattle.turtle.specs.Poses.{Stroke, stroke}

-- a number of so many bits
pub record Field : Type 0 where
  pub width : ℕ
  pub value : ℕ

abbrev pub field : ℕ → ℕ → Field
field w n = record { width = w; value = n }

-- an integer in two's complement
abbrev pub twos : ℕ → ℤ → ℕ
twos w (pos n) = n
twos w (negsuc n) = 2 ^ w - suc n

-- the start, the direction, the length, and a zero bit
abbrev pub fields : Stroke → List Field
fields s =
    field 16 (twos 16 s.start.x)
    ∷ field 16 (twos 16 s.start.y)
    ∷ field 16 (twos 16 s.start.z)
    ∷ field 3 s.heading
    ∷ field 12 s.length
    ∷ field 1 0
    ∷ []

-- fields end to end, most significant bit first, behind the bits of n
abbrev pub packed : ℕ → List Field → ℕ
packed n [] = n
packed n (f ∷ fs) = packed (n * 2 ^ f.width + f.value) fs

-- the last k bytes of a number, most significant first
abbrev pub last_bytes : ℕ → ℕ → List ℕ
last_bytes zero n = []
last_bytes (suc k) n = last_bytes k (n / 256) ++ (n % 256 ∷ [])

unfoldable pub record_of : Stroke → List ℕ
record_of s = last_bytes 8 (packed 0 (fields s))

-- the number that bytes make, most significant first
abbrev pub number : List ℕ → ℕ
number bs = fold (λ n b. n * 256 + b) 0 bs

-- the w bits above the last k
abbrev pub cut : ℕ → ℕ → ℕ → ℕ
cut k w n = n / 2 ^ k % 2 ^ w

-- the integer of w bits in two's complement
abbrev pub signed : ℕ → ℕ → ℤ
signed w n = cond (nat_lt n (2 ^ (w - 1))) (pos n) (neg_ℤ (pos (2 ^ w - n)))

abbrev pub unpacked : ℕ → Stroke
unpacked n = stroke (signed 16 (cut 48 16 n)) (signed 16 (cut 32 16 n)) (signed 16 (cut 16 16 n)) (cut 13 3 n) (cut 1 12 n)

abbrev pub read_back : List ℕ → Stroke
read_back bs = unpacked (number bs)
