-- The written form of modules and words, numbers in text, and the parts of a text.
use Rattle.std.specs.Prelude.{◌≡◌, ℕ, ◌+◌, ◌-◌, ◌*◌, ◌<◌, ◌≤◌, true, false, cond, ◌&&◌, List, [], ◌∷◌, ◌++◌, length, ℤ, Some, None, Option, ◌==◌, ◌≢◌, nat_le, slice_index}
use Rattle.std.specs.Fmt.{signed_decimal}
use Rattle.std.specs.Str.{all_ascii_digits}
use Rattle.word.specs.Symbols.{Symbol}

-- the parameters after the first, each behind a comma, and the parenthesis that closes the list
abbrev pub further : List ℤ → List ℕ
further [] = 41 ∷ []
further (z ∷ zs) = 44 ∷ (signed_decimal z ++ further zs)

-- the parameters, in parentheses where there are any
abbrev pub listed : List ℤ → List ℕ
listed [] = []
listed (z ∷ zs) = 40 ∷ (signed_decimal z ++ further zs)

abbrev pub written : Symbol → List ℕ
written s = s.letter ∷ listed s.params

-- a word is written module after module
abbrev pub spelled : List Symbol → List ℕ
spelled [] = []
spelled (s ∷ w) = written s ++ spelled w

-- the number that digits write, after those of n
abbrev pub worth_after : ℕ → List ℕ → ℕ
worth_after n [] = n
worth_after n (d ∷ ds) = worth_after (10 * n + (d - 48)) ds

abbrev pub worth : List ℕ → ℕ
worth ds = worth_after 0 ds

-- the number that 1 to 7 digits write
abbrev pub number : List ℕ → Option ℕ
number ds = cond (all_ascii_digits ds && (nat_le 1 (length ds) && nat_le (length ds) 7)) (Some (worth ds)) None

-- the byte c stands first at r, or it stands nowhere and r is the length
pub record First (c : ℕ) (text : List ℕ) (r : ℕ) : Type 0 where
  pub within : r ≤ length text
  pub before : (k : ℕ) → k < r → slice_index text k ≢ c
  pub found : r < length text → slice_index text r ≡ c

-- a byte put before the first of some parts
abbrev pub glued : ℕ → List (List ℕ) → List (List ℕ)
glued b [] = (b ∷ []) ∷ []
glued b (p ∷ ps) = (b ∷ p) ∷ ps

-- the parts of a text between the bytes c: one part more than there are such bytes
abbrev pub split : ℕ → List ℕ → List (List ℕ)
split c [] = [] ∷ []
split c (b ∷ bs) = elim (b == c) [ true ↦ [] ∷ split c bs | false ↦ glued b (split c bs) ]
