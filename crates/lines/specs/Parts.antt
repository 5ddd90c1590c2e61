-- What reading a part of a line takes, over the tokens and the code before and after. Internal.
use Rattle.std.specs.Prelude.{◌≡◌, ℕ, ◌≤◌, true, false, cond, List, [], ◌∷◌, ◌++◌, map, length, Option}
use Rattle.std.specs.Option.{option_map}
use Rattle.word.specs.Symbols.{is_letter}
use Rattle.word.specs.Text.{worth}
use Rattle.tokens.specs.declared.token.Sign.{Sign}
use Rattle.tokens.specs.declared.token.Sign.TheVariants.{Plus, Minus, Times, Over, Opens, Also, Arrow, Colon}
use Rattle.tokens.specs.Tokens.{Lexeme, number, name, sign}
use Rattle.tokens.specs.Readers.{first_sign, rest}
use Rattle.expr.specs.declared.code.Code.{Code}
use Rattle.expr.specs.declared.code.Code.TheVariants.{Add, Subtract, Multiply, Divide, Compare}
use Rattle.expr.specs.Codes.{code_of, codes_of, comparisons_code}
use Rattle.book.specs.declared.form.Form.{Form as StoredForm}
use Rattle.rules.specs.declared.head.Head.{Head}
use Rattle.rules.specs.declared.piece.Piece.{Piece as StoredPiece}
use Rattle.book.specs.Rules.{Piece}
use Rattle.rules.specs.Layout.{successor_code}
use Rattle.book.specs.Records.{form_of}
use Rattle.book.specs.Grammar.{Part, guard, comparison, sum, product, factor, operand, Tree, spells, Glyph, glyph, within, FormTree, spells_form, PieceTree, spells_piece, spells_pieces, spells_before, spells_behind, spells_guarded}
use Rattle.book.specs.Meanings.{letter_of, Sense, sense, form_sense, piece_sense, guard_sense}
use Rattle.lines.specs.Fits.{is, multiplies, joins, Which, first, middle, last, Side, begins, ignores, form_due, framed, name_due, pieces, lettered, lost, fits, start}

-- the signs that join factors, and products, with their code
pub data Multiplying : Sign → Code → Type 0 where
  by_times : Multiplying Times Multiply
  by_over : Multiplying Over Divide

pub data Adding : Sign → Code → Type 0 where
  by_plus : Adding Plus Add
  by_minus : Adding Minus Subtract

-- the code of what a part means
abbrev pub part_code : (k : Part) → Sense k → List Code
part_code guard cs = comparisons_code cs
part_code comparison c = (code_of c.first ++ code_of c.second) ++ (Compare c.relation ∷ [])
part_code sum e = code_of e
part_code product e = code_of e
part_code factor e = code_of e
part_code operand e = code_of e

-- from the tokens ts and the code cs a part was read, which left the tokens us and the code ds
pub record Took (k : Part) (ts us : List Lexeme) (cs ds : List Code) : Type 0 where
  pub tree : Tree k
  pub spelt : ts ≡ spells tree ++ us
  pub coded : ds ≡ cs ++ part_code k (sense tree)

-- the part does not go on with this sign
abbrev pub Stops : Part → Sign → Type 0
Stops guard s = (joins s ≡ false) × (is Also s ≡ false)
Stops comparison s = joins s ≡ false
Stops sum s = joins s ≡ false
Stops product s = multiplies s ≡ false
Stops factor s = Unit {0}
Stops operand s = Unit {0}

-- no line goes on with these tokens where a part is due
abbrev pub Lost : Part → List Lexeme → Type 0
Lost k ts = (d : ℕ) (r : Side) → fits (start k d r) ts ≡ false

-- the sign s is the letter b
pub record Lettering (s : Sign) (b : ℕ) : Type 0 where
  pub glyph_is : Glyph
  pub spelt : sign s ≡ glyph glyph_is
  pub meant : letter_of glyph_is ≡ b

-- the letter b stood first
pub record TookLetter (ts us : List Lexeme) (b : ℕ) : Type 0 where
  pub glyph_is : Glyph
  pub spelt : ts ≡ glyph glyph_is ∷ us
  pub meant : letter_of glyph_is ≡ b
  pub real : is_letter b ≡ true

-- names in parentheses were read behind the opening one, for the letter b
pub record TookNames (b : ℕ) (ts us : List Lexeme) (f : StoredForm) : Type 0 where
  pub letter_is : f.letter ≡ b
  pub few : length (form_of f).names ≤ 3
  pub spelt : sign Opens ∷ ts ≡ within (map (λ c. name c ∷ []) (form_of f).names) ++ us
  pub onward : (w : Which) → fits (name_due w 2) ts ≡ fits (framed w) us

pub record TookForm (ts us : List Lexeme) (f : StoredForm) : Type 0 where
  pub tree : FormTree
  pub spelt : ts ≡ spells_form tree ++ us
  pub meant : form_sense tree ≡ form_of f
  pub onward : (w : Which) → fits (form_due w) ts ≡ fits (framed w) us

-- the left form, if there is one, and the predecessor
pub record TookSides (ts us : List Lexeme) (l : Option StoredForm) (f : StoredForm) : Type 0 where
  pub before : Option FormTree
  pub predecessor : FormTree
  pub spelt : ts ≡ spells_before before ++ (spells_form predecessor ++ us)
  pub before_meant : option_map form_sense before ≡ option_map form_of l
  pub meant : form_sense predecessor ≡ form_of f
  pub onward : fits (form_due first) ts ≡ fits (framed middle) us

pub record TookBehind (ts us : List Lexeme) (f : Option StoredForm) : Type 0 where
  pub behind : Option FormTree
  pub spelt : ts ≡ spells_behind behind ++ us
  pub meant : option_map form_sense behind ≡ option_map form_of f
  pub onward : fits (framed middle) ts ≡ fits (framed last) us

pub record TookNumber (ts us : List Lexeme) (n : ℕ) : Type 0 where
  pub printed : List ℕ
  pub short : length printed ≤ 7
  pub spelt : ts ≡ number printed ∷ sign Colon ∷ us
  pub meant : worth printed ≡ n
  pub onward : fits begins ts ≡ fits (form_due first) us

pub record TookHead (ts us : List Lexeme) (h : Head) : Type 0 where
  pub middle_left : List Lexeme
  pub behind_left : List Lexeme
  pub numbered : TookNumber ts middle_left h.printed
  pub sided : TookSides middle_left behind_left h.before h.predecessor
  pub followed : TookBehind behind_left us h.behind

-- a guard, if there is one
pub record TookAsked (ts us : List Lexeme) (cs ds : List Code) : Type 0 where
  pub tree : Option (Tree guard)
  pub spelt : ts ≡ spells_guarded tree ++ us
  pub coded : ds ≡ cs ++ comparisons_code (guard_sense tree)
  pub onward : fits (framed last) ts ≡ fits (cond (is Arrow (first_sign us)) pieces lost) (rest us)

-- a guard, if there is one, and the arrow; n code places were laid by then
pub record TookGuard (ts us : List Lexeme) (cs ds : List Code) (n : ℕ) : Type 0 where
  pub tree : Option (Tree guard)
  pub spelt : ts ≡ spells_guarded tree ++ (sign Arrow ∷ us)
  pub coded : ds ≡ cs ++ comparisons_code (guard_sense tree)
  pub size : n ≡ length ds
  pub onward : fits (framed last) ts ≡ fits pieces us

-- n arguments in parentheses, or none
pub record TookArguments (ts us : List Lexeme) (cs ds : List Code) (n : ℕ) : Type 0 where
  pub trees : List (Tree sum)
  pub few : length trees ≤ 3
  pub spelt : ts ≡ within (map spells trees) ++ us
  pub coded : ds ≡ cs ++ codes_of (map sense trees)
  pub count_is : n ≡ length trees
  pub onward : fits lettered ts ≡ fits pieces us

-- a letter, how many arguments it has, and in how many code places they are laid out
pub record Outline : Type 0 where
  pub letter : ℕ
  pub count : ℕ
  pub places : ℕ

abbrev pub outlined : StoredPiece → Outline
outlined p = record { letter = p.letter; count = p.count; places = p.places }

abbrev pub outline : Piece → Outline
outline p = record { letter = p.letter; count = length p.arguments; places = length (codes_of p.arguments) }

pub record TookPiece (ts us : List Lexeme) (cs ds : List Code) (p : StoredPiece) : Type 0 where
  pub tree : PieceTree
  pub spelt : ts ≡ spells_piece tree ++ us
  pub coded : ds ≡ cs ++ codes_of (piece_sense tree).arguments
  pub stored : outlined p ≡ outline (piece_sense tree)
  pub onward : fits pieces ts ≡ fits pieces us

pub record TookPieces (ts us : List Lexeme) (cs ds : List Code) (ps : List StoredPiece) : Type 0 where
  pub trees : List PieceTree
  pub spelt : ts ≡ spells_pieces trees ++ us
  pub coded : ds ≡ cs ++ successor_code (map piece_sense trees)
  pub stored : map outlined ps ≡ map outline (map piece_sense trees)
  pub onward : fits pieces ts ≡ fits pieces us

-- letters to ignore
pub record TookLetters (ts us : List Lexeme) (bs : List ℕ) : Type 0 where
  pub first_is : Glyph
  pub more : List Glyph
  pub spelt : ts ≡ glyph first_is ∷ (map glyph more ++ us)
  pub meant : letter_of first_is ∷ map letter_of more ≡ bs
  pub onward : fits (ignores false) ts ≡ fits (ignores true) us
