-- The tokens of a line. A line is bytes, and any bytes have tokens.
use Rattle.std.specs.Prelude.{ℕ, Bool, false, cond, not, ◌&&◌, ◌||◌, List, [], ◌∷◌, ◌++◌, codes, ◌==◌, nat_le}
use Rattle.word.specs.Symbols.{among}
use Rattle.tokens.specs.declared.token.Sign.{Sign}
use Rattle.tokens.specs.declared.token.Sign.TheVariants.{Letter, Plus, Minus, Times, Over, Opens, Closes, Less, AtMost, Equal, Unequal, AtLeast, More, Also, Arrow, Comma, Colon, Asks, Ignores, Branches, Rejoins, Stray}

-- a number by its digits, a name by its byte, a sign by its meaning
pub data Lexeme : Type 0 where
  number : List ℕ → Lexeme
  name : ℕ → Lexeme
  sign : Sign → Lexeme

abbrev pub is_space : ℕ → Bool
is_space b = b == 32

-- 0–9
abbrev pub is_digit : ℕ → Bool
is_digit b = nat_le 48 b && nat_le b 57

-- a–z
abbrev pub is_name : ℕ → Bool
is_name b = nat_le 97 b && nat_le b 122

-- every other byte is a sign, known or stray
abbrev pub is_mark : ℕ → Bool
is_mark b = not (is_space b || (is_digit b || is_name b))

-- A–Z ^ \ | %, which are letters and nothing else
abbrev pub letter_only : ℕ → Bool
letter_only b = (nat_le 65 b && nat_le b 90) || among b (codes "^\\|%")

-- the sign that a byte is by itself: a letter, or one of + - * / ( ) < = > & , : ? ~ [ ] in this order, or stray
abbrev pub lone : ℕ → Sign
lone b =
    cond (letter_only b) (Letter b)
    (cond (b == 43) Plus
    (cond (b == 45) Minus
    (cond (b == 42) Times
    (cond (b == 47) Over
    (cond (b == 40) Opens
    (cond (b == 41) Closes
    (cond (b == 60) Less
    (cond (b == 61) Equal
    (cond (b == 62) More
    (cond (b == 38) Also
    (cond (b == 44) Comma
    (cond (b == 58) Colon
    (cond (b == 63) Asks
    (cond (b == 126) Ignores
    (cond (b == 91) Branches
    (cond (b == 93) Rejoins Stray))))))))))))))))

-- whether two bytes are one sign: `->`, `<=`, `>=` and `!=` are
abbrev pub pairs : ℕ → ℕ → Bool
pairs b c = (b == 45 && c == 62) || (c == 61 && (b == 60 || (b == 62 || b == 33)))

abbrev pub paired : ℕ → ℕ → Sign
paired b c =
    cond (b == 45 && c == 62) Arrow
    (cond (b == 60 && c == 61) AtMost
    (cond (b == 62 && c == 61) AtLeast
    (cond (b == 33 && c == 61) Unequal Stray)))

-- the sign that some bytes are: stray where they are none of the above
abbrev pub sign_of : List ℕ → Sign
sign_of [] = Stray
sign_of (b ∷ []) = lone b
sign_of (b ∷ c ∷ []) = paired b c
sign_of (b ∷ c ∷ d ∷ bs) = Stray

-- whether some bytes may be a sign token: a mark, or a pair
abbrev pub is_sign : List ℕ → Bool
is_sign [] = false
is_sign (b ∷ []) = is_mark b
is_sign (b ∷ c ∷ []) = pairs b c
is_sign (b ∷ c ∷ d ∷ bs) = false

-- what a byte is by itself: a space is no token
abbrev pub single : ℕ → List Lexeme
single b =
    cond (is_space b) []
    (cond (is_digit b) (number (b ∷ []) ∷ [])
    (cond (is_name b) (name b ∷ []) (sign (lone b) ∷ [])))

-- a digit right before a number joins it
abbrev pub joined : ℕ → List Lexeme → List Lexeme
joined b [] = []
joined b (number ds ∷ ts) = number (b ∷ ds) ∷ ts
joined b (name c ∷ ts) = name c ∷ ts
joined b (sign s ∷ ts) = sign s ∷ ts

-- digits in a row are one number of any length, and the four pairs one sign each; spaces stand between tokens only
abbrev pub tokens : List ℕ → List Lexeme
tokens [] = []
tokens (b ∷ []) = single b
tokens (b ∷ c ∷ bs) =
    cond (is_digit b && is_digit c) (joined b (tokens (c ∷ bs)))
    (cond (pairs b c) (sign (paired b c) ∷ tokens bs) (single b ++ tokens (c ∷ bs)))
