-- What a book does not take: the first reason against a rule, or against what a line says.
use Rattle.std.specs.Prelude.{ℕ, ◌+◌, Bool, false, cond, ◌||◌, List, [], ◌∷◌, length, ◌==◌, nat_le, nat_lt}
use Rattle.book.specs.Rules.{Rule}
use Rattle.book.specs.Books.{Book, Entry, rule, ignores}
use Rattle.rules.specs.Places.{places_of}
use Rattle.rules.specs.Wrong.{wrong}

-- whether one of some rules has this printed number
abbrev pub holds_number : ℕ → List Rule → Bool
holds_number n [] = false
holds_number n (u ∷ us) = n == u.number || holds_number n us

-- the code places of some rules
abbrev pub code_places : List Rule → ℕ
code_places [] = 0
code_places (u ∷ us) = places_of u + code_places us

-- the number of the first reason for which a book has no place for a rule, or 0
abbrev pub no_place : Book → Rule → ℕ
no_place b u =
    cond (holds_number u.number b.rules) 11
    (cond (nat_le 48 (length b.rules)) 12
    (cond (nat_lt 1_024 (code_places b.rules + places_of u)) 13 0))

-- the number of the first reason for which a book does not take what a line says, or 0; what is wrong with a rule by itself
-- comes first
abbrev pub refused : Book → Entry → ℕ
refused b (rule u) = wrong u (no_place b u)
refused b (ignores cs) = 0
