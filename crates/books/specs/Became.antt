-- What is answered and written of what becomes of a module.
use Rattle.std.specs.Prelude.{◌≡◌, ℕ, true, List, [], ◌∷◌, Ok, Err, Result}
use Rattle.word.specs.Symbols.{Symbol}
use Rattle.expr.specs.declared.computed.Cause.{Cause}
use Rattle.expr.specs.Records.{cause_number}
use Rattle.books.specs.Nesting.{balanced, deepest}
use Rattle.books.specs.Outcomes.{Outcome, itself, grown, fault}

-- a module s that stays as it is grows to itself
abbrev pub settled : Symbol → Outcome → Outcome
settled s itself = grown (s ∷ [])
settled s (grown w) = grown w
settled s (fault n) = fault n

-- how deep the brackets of a successor nest; where no rule decides there is none
abbrev pub nesting : Outcome → ℕ
nesting itself = 0
nesting (grown w) = deepest 0 w
nesting (fault n) = 0

-- of the outcome of the module s: the modules w are written, and how deep the successor nests is answered; or none are written,
-- and the cause of a fault is answered
abbrev pub Became : Symbol → Outcome → Result ℕ Cause → List Symbol → Type 0
Became s o (Ok d) w = (settled s o ≡ grown w) × (d ≡ nesting o)
Became s o (Err c) w = (o ≡ fault (cause_number c)) × (w ≡ [])

-- of the outcome of a module: where it is a successor, the brackets of the modules w that are written nest
abbrev pub BracketsNest : Outcome → List Symbol → Type 0
BracketsNest itself w = Unit {0}
BracketsNest (grown v) w = balanced 0 w ≡ true
BracketsNest (fault n) w = Unit {0}
