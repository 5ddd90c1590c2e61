-- The grammar of lines, as trees and the tokens that a tree spells.
use Rattle.std.specs.Prelude.{ℕ, ◌≤◌, List, [], ◌∷◌, ◌++◌, map, length, Some, None, Option}
use Rattle.tokens.specs.declared.token.Sign.{Sign}
use Rattle.tokens.specs.declared.token.Sign.TheVariants.{Letter, Plus, Minus, Times, Over, Opens, Closes, Less, AtMost, Equal, Unequal, AtLeast, More, Also, Arrow, Comma, Colon, Asks, Ignores, Branches, Rejoins}
use Rattle.tokens.specs.Tokens.{Lexeme, number, name, sign}
use Rattle.expr.specs.declared.code.Relation.{Relation}
use Rattle.expr.specs.declared.code.Relation.TheVariants as relation

pub data Part : Type 0 where
  guard comparison sum product factor operand : Part

-- the sign of a relation
abbrev pub relation_sign : Relation → Sign
relation_sign relation.Less = Less
relation_sign relation.AtMost = AtMost
relation_sign relation.Equal = Equal
relation_sign relation.Unequal = Unequal
relation_sign relation.AtLeast = AtLeast
relation_sign relation.More = More

-- A guard is comparisons joined by `&`, a comparison a sum, a relation and a sum, a sum products joined by `+` or `-`, a product
-- factors joined by `*` or `/`, a factor an operand after an optional `-`, an operand a number of at most 7 digits, a name or a sum
-- in parentheses.
pub data Tree : Part → Type 0 where
  digits : (ds : List ℕ) → length ds ≤ 7 → Tree operand
  named : ℕ → Tree operand
  group : Tree sum → Tree operand
  plain : Tree operand → Tree factor
  negated : Tree operand → Tree factor
  one_factor : Tree factor → Tree product
  times : Tree product → Tree factor → Tree product
  over : Tree product → Tree factor → Tree product
  one_product : Tree product → Tree sum
  plus : Tree sum → Tree product → Tree sum
  less : Tree sum → Tree product → Tree sum
  compared : Tree sum → Relation → Tree sum → Tree comparison
  one_comparison : Tree comparison → Tree guard
  also : Tree guard → Tree comparison → Tree guard

abbrev pub spells : {k : Part} → Tree k → List Lexeme
spells (digits ds h) = number ds ∷ []
spells (named c) = name c ∷ []
spells (group s) = sign Opens ∷ (spells s ++ (sign Closes ∷ []))
spells (plain a) = spells a
spells (negated a) = sign Minus ∷ spells a
spells (one_factor f) = spells f
spells (times p f) = spells p ++ (sign Times ∷ spells f)
spells (over p f) = spells p ++ (sign Over ∷ spells f)
spells (one_product p) = spells p
spells (plus s p) = spells s ++ (sign Plus ∷ spells p)
spells (less s p) = spells s ++ (sign Minus ∷ spells p)
spells (compared a r b) = spells a ++ (sign (relation_sign r) ∷ spells b)
spells (one_comparison c) = spells c
spells (also g c) = spells g ++ (sign Also ∷ spells c)

-- a letter: a–z, one that is nothing else, or one of `+ - & /`
pub data Glyph : Type 0 where
  small : ℕ → Glyph
  high : ℕ → Glyph
  cross dash ampersand slash : Glyph

abbrev pub glyph : Glyph → Lexeme
glyph (small c) = name c
glyph (high c) = sign (Letter c)
glyph cross = sign Plus
glyph dash = sign Minus
glyph ampersand = sign Also
glyph slash = sign Over

-- nothing, or all in parentheses, split by commas
abbrev pub closing : List (List Lexeme) → List Lexeme
closing [] = sign Closes ∷ []
closing (x ∷ xs) = sign Comma ∷ (x ++ closing xs)

abbrev pub within : List (List Lexeme) → List Lexeme
within [] = []
within (x ∷ xs) = sign Opens ∷ (x ++ closing xs)

-- a form is a letter, optionally with 1 to 3 names
pub record FormTree : Type 0 where
  pub glyph : Glyph
  pub names : List ℕ
  pub few : length names ≤ 3

abbrev pub spells_form : FormTree → List Lexeme
spells_form f = glyph f.glyph ∷ within (map (λ c. name c ∷ []) f.names)

-- a successor is any number of brackets and letters, each letter optionally with 1 to 3 sums
pub data PieceTree : Type 0 where
  branches rejoins : PieceTree
  grown : Glyph → (ss : List (Tree sum)) → length ss ≤ 3 → PieceTree

abbrev pub spells_piece : PieceTree → List Lexeme
spells_piece branches = sign Branches ∷ []
spells_piece rejoins = sign Rejoins ∷ []
spells_piece (grown l ss h) = glyph l ∷ within (map spells ss)

abbrev pub spells_pieces : List PieceTree → List Lexeme
spells_pieces [] = []
spells_pieces (p ∷ ps) = spells_piece p ++ spells_pieces ps

-- number, `:`, optionally a form and `<`, a form, optionally `>` and a form, optionally `?` and a guard, `->`, successor
pub record RuleTree : Type 0 where
  pub printed : List ℕ
  pub short : length printed ≤ 7
  pub before : Option FormTree
  pub predecessor : FormTree
  pub behind : Option FormTree
  pub guarded : Option (Tree guard)
  pub successor : List PieceTree

abbrev pub spells_before : Option FormTree → List Lexeme
spells_before None = []
spells_before (Some f) = spells_form f ++ (sign Less ∷ [])

abbrev pub spells_behind : Option FormTree → List Lexeme
spells_behind None = []
spells_behind (Some f) = sign More ∷ spells_form f

abbrev pub spells_guarded : Option (Tree guard) → List Lexeme
spells_guarded None = []
spells_guarded (Some g) = sign Asks ∷ spells g

-- a line whose first token is `~` names one or more letters; any other is a rule
pub data LineTree : Type 0 where
  ignoring : Glyph → List Glyph → LineTree
  ruling : RuleTree → LineTree

abbrev pub spells_line : LineTree → List Lexeme
spells_line (ignoring l ls) = sign Ignores ∷ glyph l ∷ map glyph ls
spells_line (ruling r) =
    number r.printed
    ∷ sign Colon
    ∷ (spells_before r.before
    ++ (spells_form r.predecessor
    ++ (spells_behind r.behind ++ (spells_guarded r.guarded ++ (sign Arrow ∷ spells_pieces r.successor)))))
