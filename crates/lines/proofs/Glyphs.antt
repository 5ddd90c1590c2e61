-- Letters and names by their tokens.
use Rattle.std.proofs.Common.{◌≡◌, ℕ, true, false, List, ◌++◌, Some, refl, ap, ◌∙◌, arith}
use Rattle.std.proofs.lemmas.Bool.Decides.{nat_tests}
use Rattle.word.specs.Symbols.{is_letter}
use Rattle.tokens.specs.declared.token.Token.{Token}
use Rattle.tokens.specs.declared.token.Token.TheVariants.{Number, Name, Sign as Mark}
use Rattle.tokens.specs.Tokens.{Lexeme, is_name, tokens}
use Rattle.tokens.specs.Readers.{means}
use Rattle.lines.specs.Fits.{Which, name_due, fits}
use Rattle.lines.proofs.Signs.{never}

-- a letter of a line is a letter
pub name_real : (c : ℕ) → is_name c ≡ true → is_letter c ≡ true
name_real c h = grind (arith, nat_tests)

-- only a name may stand where one is due
pub unnamed : (t : Token) (ts : List Lexeme) (bs : List ℕ) → ts ≡ means (Some t) ++ tokens bs → ((p : _) → t ≡ Name p → ⊥) → (w : Which) (n : ℕ) → fits (name_due w n) ts ≡ false
unnamed (Number p) ts bs e other w n = ap (fits (name_due w n)) e ∙ never (tokens bs)
unnamed (Name p) ts bs e other w n = absurd (other p refl)
unnamed (Mark p) ts bs e other w n = ap (fits (name_due w n)) e ∙ never (tokens bs)
