-- What a module is: a letter with up to three parameters, or a bare bracket.
use Rattle.std.specs.Prelude.{ℕ, Bool, false, cond, ◌&&◌, ◌||◌, List, [], ◌∷◌, length, take, ℤ, codes, ◌==◌, nat_le, nat_lt, unsigned_abs}
use Rattle.std.specs.List.{list_all}

-- a module: a letter or a bracket, by its ASCII number, and its parameters
pub record Symbol : Type 0 where
  pub letter : ℕ
  pub params : List ℤ

abbrev pub among : ℕ → List ℕ → Bool
among c [] = false
among c (x ∷ xs) = c == x || among c xs

-- A–Z, a–z, or one of the eight signs
abbrev pub is_letter : ℕ → Bool
is_letter c = (nat_le 65 c && nat_le c 90) || ((nat_le 97 c && nat_le c 122) || among c (codes "+-&^\\/|%"))

-- `[` and `]`
abbrev pub is_open : ℕ → Bool
is_open c = c == 91

abbrev pub is_close : ℕ → Bool
is_close c = c == 93

abbrev pub is_bracket : ℕ → Bool
is_bracket c = is_open c || is_close c

-- within ±1,000,000
abbrev pub in_range : ℤ → Bool
in_range z = nat_le (unsigned_abs z) 1_000_000

abbrev pub all_in_range : List ℤ → Bool
all_in_range zs = list_all in_range zs

-- a letter has at most 3 parameters, each in range; a bracket has none
abbrev pub valid : Symbol → Bool
valid s =
    cond (is_bracket s.letter) (length s.params == 0)
    (is_letter s.letter && (nat_le (length s.params) 3 && all_in_range s.params))

-- a letter or bracket with these parameters
abbrev pub symbol_with : ℕ → List ℤ → Symbol
symbol_with letter params = record { letter = letter; params = params }

-- The record of a module: three single numbers, of which the first `count` are its parameters.
abbrev pub symbol : ℕ → ℕ → ℤ → ℤ → ℤ → Symbol
symbol letter count a b c = record { letter = letter; params = take count (a ∷ b ∷ c ∷ []) }

abbrev pub may_have : ℕ → ℕ → Bool
may_have letter count = cond (is_bracket letter) (count == 0) (is_letter letter && nat_le count 3)

-- a number that counts is in range, and one that does not is 0
abbrev pub fits : Bool → ℤ → Bool
fits counts z = cond counts (in_range z) (unsigned_abs z == 0)

-- so each module has one record
abbrev pub sound : ℕ → ℕ → ℤ → ℤ → ℤ → Bool
sound letter count a b c = may_have letter count && (fits (nat_lt 0 count) a && (fits (nat_lt 1 count) b && fits (nat_lt 2 count) c))
