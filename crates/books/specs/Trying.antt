-- A rule tried by its head. Internal.
use Rattle.std.specs.Prelude.{◌≡◌, ℕ, Bool, true, false, ◌&&◌, List, [], ◌++◌, pos, Some, None, Ok, Err, Option, Result}
use Rattle.std.specs.Option.{option_map}
use Rattle.word.specs.declared.module.Module.{Module}
use Rattle.word.specs.Symbols.{Symbol}
use Rattle.word.specs.Records.{symbol_of}
use Rattle.expr.specs.declared.code.Code.{Code}
use Rattle.expr.specs.declared.computed.Cause.{Cause}
use Rattle.expr.specs.Values.{Env, arguments, made, spoilt}
use Rattle.expr.specs.Codes.{decoded, latest}
use Rattle.expr.specs.Records.{cause_number}
use Rattle.rules.specs.declared.piece.Piece.{Piece}
use Rattle.rules.specs.declared.head.Head.{Head}
use Rattle.book.specs.Rules.{Rule, agrees, beside, given, given_beside}
use Rattle.book.specs.Records.{form_of}
use Rattle.book.specs.Winners.{says, decides}
use Rattle.books.specs.Outcomes.{Outcome, itself, grown, fault, by_verdict}
use Rattle.books.specs.Nesting.{deepest}

abbrev pub head_fits : Option Symbol → Symbol → Option Symbol → Head → Bool
head_fits l s r h = agrees (form_of h.predecessor) s && (beside (option_map form_of h.before) l && beside (option_map form_of h.behind) r)

abbrev pub head_names : Option Symbol → Symbol → Option Symbol → Head → Env
head_names l s r h = given_beside (option_map form_of h.before) l (given (form_of h.predecessor).names s.params (given_beside (option_map form_of h.behind) r (λ x. pos 0)))

-- some modules, then an outcome
abbrev pub behind : List Symbol → Outcome → Outcome
behind w itself = itself
behind w (grown v) = grown (w ++ v)
behind w (fault n) = fault n

-- what a piece with this code grows to
abbrev pub Grows : Env → Piece → List Code → Result Module Cause → Type 0
Grows g p cs (Ok m) = (arguments g (latest p.count (decoded [] cs)) ≡ made (symbol_of m).params) × (m.letter ≡ p.letter)
Grows g p cs (Err e) = arguments g (latest p.count (decoded [] cs)) ≡ spoilt (cause_number e)

-- the pieces of a successor grow to the modules w that are written
abbrev pub Grown : Outcome → Result (Unit {0}) Cause → List Symbol → Type 0
Grown o (Ok u) w = grown w ≡ o
Grown o (Err e) w = fault (cause_number e) ≡ o

-- and how deep they nest is answered
abbrev pub GrownDeep : Outcome → Result ℕ Cause → List Symbol → Type 0
GrownDeep o (Ok d) w = (grown w ≡ o) × (d ≡ deepest 0 w)
GrownDeep o (Err e) w = fault (cause_number e) ≡ o

-- the rule u, tried at the module s between its neighbours, decides nothing, or what becomes of the module
abbrev pub Tried : Option Symbol → Symbol → Option Symbol → Rule → Result (Option ℕ) Cause → List Symbol → Type 0
Tried l s r u (Ok None) w = (decides l s r u ≡ false) × (w ≡ [])
Tried l s r u (Ok (Some d)) w = (decides l s r u ≡ true) × (grown w ≡ by_verdict l s r (says l s r u) u) × (d ≡ deepest 0 w)
Tried l s r u (Err e) w = (decides l s r u ≡ true) × (fault (cause_number e) ≡ by_verdict l s r (says l s r u) u)
