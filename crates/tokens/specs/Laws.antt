-- What holds of the tokens of every line, and the tokens of a few.
use Rattle.std.specs.Prelude.{◌≡◌, ℕ, ◌≤◌, List, [], ◌∷◌, ◌++◌, length, codes}
use Rattle.tokens.specs.declared.token.Sign.TheVariants.{Letter, Plus, Minus, Opens, Closes, Less, AtMost, Equal, Unequal, More, Arrow, Colon, Asks, Ignores, Branches, Rejoins}
use Rattle.tokens.specs.Tokens.{number, name, sign, tokens}

pub record Laws : Type 0 where
  -- a space parts a line: its tokens are those before the space, then those behind it. So a space in front is no token, and
  -- several spaces are as one
  pub parted : (xs ys : List ℕ) → tokens (xs ++ (32 ∷ ys)) ≡ tokens xs ++ tokens ys
  -- no more tokens than bytes
  pub few : (l : List ℕ) → length (tokens l) ≤ length l
  pub longest : tokens (codes "1:-->+") ≡ number (codes "1") ∷ sign Colon ∷ sign Minus ∷ sign Arrow ∷ sign Plus ∷ []
  pub ignored : tokens (codes "~->") ≡ sign Ignores ∷ sign Arrow ∷ []
  pub compared : tokens (codes "a<=b") ≡ name 97 ∷ sign AtMost ∷ name 98 ∷ []
  pub apart : tokens (codes "< =") ≡ sign Less ∷ sign Equal ∷ []
  pub numbers : tokens (codes "12 3") ≡ number (codes "12") ∷ number (codes "3") ∷ []
  pub rule :
      tokens (codes "7:A>B?x!=2->[B(x-1)]")
      ≡ number (codes "7") ∷ sign Colon ∷ sign (Letter 65) ∷ sign More ∷ sign (Letter 66) ∷ sign Asks ∷ name 120 ∷ sign Unequal
      ∷ number (codes "2") ∷ sign Arrow ∷ sign Branches ∷ sign (Letter 66) ∷ sign Opens ∷ name 120 ∷ sign Minus ∷ number (codes "1")
      ∷ sign Closes ∷ sign Rejoins ∷ []
