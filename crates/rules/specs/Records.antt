-- What the records of the code mean.
use Rattle.std.specs.Prelude.{ℕ, ◌+◌, cond, List, [], ◌∷◌, ◌++◌, length, take, drop, nat_lt}
use Rattle.std.specs.Option.{option_map}
use Rattle.rows.specs.declared.row.Row.{Row}
use Rattle.rows.specs.Rows.{held}
use Rattle.expr.specs.declared.code.Code.{Code}
use Rattle.expr.specs.Codes.{decoded, comparisons, latest}
use Rattle.book.specs.Records.{form_of}
use Rattle.rules.specs.declared.head.Head.{Head}
use Rattle.rules.specs.declared.piece.Piece.{Piece as StoredPiece}
use Rattle.book.specs.Rules.{Piece, Rule}

-- one more at the end of a row of at most 200
abbrev pub pushed : {A : Type 0} → A → List A → List A
pushed x xs = cond (nat_lt (length xs) 200) (xs ++ (x ∷ [])) xs

-- what is filled of a row
abbrev pub code_in : Row Code 200 → List Code
code_in c = held c

abbrev pub pieces_in : Row StoredPiece 200 → List StoredPiece
pieces_in p = held p

-- the places that some letters and brackets take up
abbrev pub places_in : List StoredPiece → ℕ
places_in [] = 0
places_in (p ∷ ps) = p.places + places_in ps

-- letters and brackets, the arguments of each laid out in its places of the code, one after the other
abbrev pub pieces_from : List StoredPiece → List Code → List Piece
pieces_from [] cs = []
pieces_from (p ∷ ps) cs = record { letter = p.letter; arguments = latest p.count (decoded [] (take p.places cs)) } ∷ pieces_from ps (drop p.places cs)

-- a letter or bracket without its arguments
abbrev pub bare : StoredPiece → Piece
bare p = record { letter = p.letter; arguments = [] }

-- a rule whose code is cs: first that of the guard, then that of the successor
abbrev pub rule_from : Head → ℕ → List StoredPiece → List Code → Rule
rule_from h guard ps cs = record {
  number = h.printed;
  before = option_map form_of h.before;
  predecessor = form_of h.predecessor;
  behind = option_map form_of h.behind;
  guarded = comparisons [] (take guard cs);
  successor = pieces_from ps (drop guard cs);
}
