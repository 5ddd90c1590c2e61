-- The code of a rule: that of its guard, then that of its successor's arguments. Internal.
use Rattle.std.specs.Prelude.{List, [], ◌∷◌, ◌++◌}
use Rattle.expr.specs.declared.code.Code.{Code}
use Rattle.expr.specs.Codes.{codes_of, comparisons_code}
use Rattle.book.specs.Rules.{Piece, Rule}

abbrev pub successor_code : List Piece → List Code
successor_code [] = []
successor_code (p ∷ ps) = codes_of p.arguments ++ successor_code ps

abbrev pub rule_code : Rule → List Code
rule_code u = comparisons_code u.guarded ++ successor_code u.successor
