-- What each step of the parser comes to. Internal.
use Rattle.std.specs.Prelude.{◌≡◌, ℕ, Bool, true, false, List, [], ◌∷◌, Ok, Err, Option, Result, Some, None, IfSome, MatchBool, MatchOption}
use Rattle.tokens.specs.declared.token.Sign.{Sign}
use Rattle.tokens.specs.declared.token.Sign.TheVariants.{Ignores}
use Rattle.tokens.specs.declared.reader.Reader.{Reader}
use Rattle.tokens.specs.Tokens.{Lexeme, name, sign, is_name}
use Rattle.tokens.specs.Readers.{unread, leading, first_sign}
use Rattle.expr.specs.declared.code.Code.{Code}
use Rattle.rules.specs.declared.draft.Draft.{Draft}
use Rattle.book.specs.declared.form.Form.{Form}
use Rattle.rules.specs.declared.head.Head.{Head}
use Rattle.rules.specs.declared.piece.Piece.{Piece}
use Rattle.rows.specs.declared.row.Row.{Row}
use Rattle.rules.specs.declared.refusal.Refusal.{Refusal}
use Rattle.rules.specs.declared.refusal.Refusal.TheVariants.{NotByGrammar}
use Rattle.rules.specs.Records.{code_in, pieces_in}
use Rattle.rules.specs.Drafts.{rule_of}
use Rattle.lines.specs.declared.parser.Parser.{Parser}
use Rattle.book.specs.Grammar.{Part, RuleTree, ruling, spells_line}
use Rattle.book.specs.Meanings.{rule_sense}
use Rattle.lines.specs.Records.{letters_in}
use Rattle.lines.specs.Fits.{is, starts_glyph, Which, first, middle, last, begins, ignores, form_due, framed, name_due, pieces, lettered, fits}
use Rattle.lines.specs.Parts.{Took, Stops, Lost, TookLetter, TookNames, TookForm, TookSides, TookBehind, TookNumber, TookHead, TookAsked, TookGuard, TookArguments, TookPiece, TookPieces, TookLetters}

-- what a parser has still to read, and the code of what it has read
abbrev pub left : Parser → List Lexeme
left p = unread p.reader

abbrev pub laid : Parser → List Code
laid p = code_in p.codes

-- P of what was read, or a refusal by the grammar, and Q
abbrev pub Read : {A : Type 0} → (A → Type 0) → Type 0 → Result A Refusal → Type 0
Read P Q (Ok x) = P x
Read P Q (Err e) = (e ≡ NotByGrammar) × Q

abbrev pub ReadsPart : Part → Result (Unit {0}) Refusal → Parser → Parser → Type 0
ReadsPart k r p q = Read (λ _. Took k (left p) (left q) (laid p) (laid q) × Stops k (first_sign (left q))) (Lost k (left p)) r

-- the sign s was taken, or else does not stand first
abbrev pub TakesSign : Sign → Bool → List Lexeme → List Lexeme → Type 0
TakesSign s taken ts us = MatchBool taken (ts ≡ sign s ∷ us) ((us ≡ ts) × (is s (first_sign ts) ≡ false))

-- a sign was taken by what it means, or else the one that stands first, if one does, means nothing
abbrev pub TakesAs : {A : Type 0} → (Sign → Option A → Type 0) → Option A → List Lexeme → List Lexeme → Type 0
TakesAs means r ts us = MatchOption r ((us ≡ ts) × IfSome (leading ts) (λ s. means s None)) (λ x. (s : Sign) × means s (Some x) × (ts ≡ sign s ∷ us))

abbrev pub ReadsSign : Sign → Result (Unit {0}) Refusal → List Lexeme → List Lexeme → Type 0
ReadsSign s r ts us = Read (λ _. ts ≡ sign s ∷ us) (is s (first_sign ts) ≡ false) r

abbrev pub ReadsLetter : Result ℕ Refusal → Reader → Reader → Type 0
ReadsLetter r p q = Read (λ b. TookLetter (unread p) (unread q) b) (starts_glyph (unread p) ≡ false) r

abbrev pub ReadsName : Result ℕ Refusal → Reader → Reader → Type 0
ReadsName r p q = Read (λ b. (unread p ≡ name b ∷ unread q) × (is_name b ≡ true)) ((w : Which) (n : ℕ) → fits (name_due w n) (unread p) ≡ false) r

abbrev pub ReadsNames : ℕ → Result Form Refusal → Reader → Reader → Type 0
ReadsNames b r p q = Read (λ f. TookNames b (unread p) (unread q) f) ((w : Which) → fits (name_due w 2) (unread p) ≡ false) r

abbrev pub ReadsForm : Result Form Refusal → Reader → Reader → Type 0
ReadsForm r p q = Read (λ f. TookForm (unread p) (unread q) f) ((w : Which) → fits (form_due w) (unread p) ≡ false) r

abbrev pub ReadsSides : Result (Option Form × Form) Refusal → Reader → Reader → Type 0
ReadsSides r p q = Read (λ f. TookSides (unread p) (unread q) f.0 f.1) (fits (form_due first) (unread p) ≡ false) r

abbrev pub ReadsBehind : Result (Option Form) Refusal → Reader → Reader → Type 0
ReadsBehind r p q = Read (λ f. TookBehind (unread p) (unread q) f) (fits (framed middle) (unread p) ≡ false) r

-- no rule begins with these tokens: no line does that does not ignore letters
abbrev pub Unruled : List Lexeme → Type 0
Unruled ts = is Ignores (first_sign ts) ≡ false → fits begins ts ≡ false

abbrev pub ReadsNumber : Result ℕ Refusal → Reader → Reader → Type 0
ReadsNumber r p q = Read (λ n. TookNumber (unread p) (unread q) n) (Unruled (unread p)) r

abbrev pub ReadsHead : Result Head Refusal → Reader → Reader → Type 0
ReadsHead r p q = Read (λ h. TookHead (unread p) (unread q) h) (Unruled (unread p)) r

abbrev pub ReadsAsked : Result (Unit {0}) Refusal → Parser → Parser → Type 0
ReadsAsked r p q = Read (λ _. TookAsked (left p) (left q) (laid p) (laid q)) (fits (framed last) (left p) ≡ false) r

abbrev pub ReadsGuard : Result ℕ Refusal → Parser → Parser → Type 0
ReadsGuard r p q = Read (λ n. TookGuard (left p) (left q) (laid p) (laid q) n) (fits (framed last) (left p) ≡ false) r

abbrev pub ReadsArguments : Result ℕ Refusal → Parser → Parser → Type 0
ReadsArguments r p q = Read (λ n. TookArguments (left p) (left q) (laid p) (laid q) n) (fits lettered (left p) ≡ false) r

abbrev pub ReadsPiece : Result Piece Refusal → Parser → Parser → Type 0
ReadsPiece r p q = Read (λ x. TookPiece (left p) (left q) (laid p) (laid q) x) (fits pieces (left p) ≡ false) r

abbrev pub ReadsSuccessor : Result (Row Piece 200) Refusal → Parser → Parser → Type 0
ReadsSuccessor r p q = Read (λ x. TookPieces (left p) [] (laid p) (laid q) (pieces_in x)) (fits pieces (left p) ≡ false) r

abbrev pub ReadsLetters : Result (Row ℕ 200) Refusal → Reader → Type 0
ReadsLetters r p = Read (λ l. TookLetters (unread p) [] (letters_in l)) (fits (ignores false) (unread p) ≡ false) r

abbrev pub ReadsRule : Result Draft Refusal → Reader → Type 0
ReadsRule r p = Read (λ d. (t : RuleTree) × (spells_line (ruling t) ≡ unread p) × (rule_sense t ≡ rule_of d)) (Unruled (unread p)) r
