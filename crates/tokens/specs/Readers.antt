-- What a reader has still to read, and what taking a token does.
use Rattle.std.specs.Prelude.{◌≡◌, ℕ, ◌+◌, ◌<◌, ◌≤◌, true, List, [], ◌∷◌, ◌++◌, length, take, drop, slice_index, Option, Some, None}
use Rattle.std.specs.Option.{unwrap_or}
use Rattle.std.specs.Str.{all_ascii_digits}
use Rattle.tokens.specs.declared.token.Sign.{Sign}
use Rattle.tokens.specs.declared.token.Sign.TheVariants.{Stray}
use Rattle.tokens.specs.declared.token.Token.{Token}
use Rattle.tokens.specs.declared.token.Token.TheVariants.{Number, Name, Sign as Mark}
use Rattle.tokens.specs.declared.reader.Reader.{Reader}
use Rattle.tokens.specs.Tokens.{Lexeme, number, name, sign, is_name, is_sign, sign_of, tokens}

-- the bytes still to be read, and their tokens
abbrev pub ahead : Reader → List ℕ
ahead r = drop r.at r.line.now

abbrev pub unread : Reader → List Lexeme
unread r = tokens (ahead r)

-- a token's part of the line
abbrev pub bytes : Option Token → List ℕ
bytes None = []
bytes (Some (Number p)) = p.now
bytes (Some (Name p)) = p.now
bytes (Some (Mark p)) = p.now

-- what a token means: one token of the line, and the end none
abbrev pub means : Option Token → List Lexeme
means None = []
means (Some (Number p)) = number p.now ∷ []
means (Some (Name p)) = name (slice_index p.now 0) ∷ []
means (Some (Mark p)) = sign (sign_of p.now) ∷ []

-- A number's part is one digit or more, a name's a single a–z, a sign's a mark or a pair; at the end no byte is left.
abbrev pub Formed : Option Token → List ℕ → Type 0
Formed None left = left ≡ []
Formed (Some (Number p)) left = (0 < length p.now) × (all_ascii_digits p.now ≡ true)
Formed (Some (Name p)) left = (length p.now ≡ 1) × (is_name (slice_index p.now 0) ≡ true)
Formed (Some (Mark p)) left = is_sign p.now ≡ true

-- the token t stands first in a text, in n bytes
pub record Leads (text : List ℕ) (t : Token) (n : ℕ) : Type 0 where
  pub within : n ≤ length text
  pub part : bytes (Some t) ≡ take n text
  pub whole : tokens text ≡ means (Some t) ++ tokens (drop n text)
  pub formed : Formed (Some t) (drop n text)

-- The reader r takes the token t, or None at the end, and is r' then: t was the first token unread. From where r stood to the start of t's part
-- of the line stand spaces only, and r' stands right behind that part; at the end that is behind the whole line.
pub record Takes (r : Reader) (t : Option Token) (r' : Reader) : Type 0 where
  pub whole : unread r ≡ means t ++ unread r'
  pub formed : Formed t (ahead r')
  pub same : r'.line.now ≡ r.line.now
  pub start : ℕ
  pub onward : r.at ≤ start
  pub spaces : (k : ℕ) → r.at ≤ k → k < start → slice_index r.line.now k ≡ 32
  pub part : bytes t ≡ take (length (bytes t)) (drop start r.line.now)
  pub behind : r'.at ≡ start + length (bytes t)

-- the reader r passes over a token, and is r' then
abbrev pub Passes : Reader → Reader → Type 0
Passes r r' = (t : Option Token) × Takes r t r'

-- the first token's sign, if it is one
abbrev pub leading : List Lexeme → Option Sign
leading [] = None
leading (number ds ∷ ts) = None
leading (name b ∷ ts) = None
leading (sign s ∷ ts) = Some s

-- the same, with Stray for none
abbrev pub first_sign : List Lexeme → Sign
first_sign ts = unwrap_or (leading ts) Stray

-- the tokens but the first
abbrev pub rest : List Lexeme → List Lexeme
rest [] = []
rest (t ∷ ts) = ts
