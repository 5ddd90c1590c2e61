-- What becomes of a module between its neighbours.
use Rattle.std.specs.Prelude.{ℕ, List, [], ◌∷◌, Some, None, Option}
use Rattle.word.specs.Symbols.{Symbol}
use Rattle.expr.specs.Values.{Env, Verdict, passes, fails, faults, Arguments, made, spoilt, arguments}
use Rattle.book.specs.Rules.{Piece, Rule, names_at}
use Rattle.book.specs.Winners.{says, winner}

-- a module stays as it is, grows to some modules, or ends the word by the cause of a fault
pub data Outcome : Type 0 where
  itself : Outcome
  grown : List Symbol → Outcome
  fault : ℕ → Outcome

abbrev pub with_first : ℕ → Arguments → Outcome → Outcome
with_first c (spoilt n) o = fault n
with_first c (made xs) itself = itself
with_first c (made xs) (grown w) = grown (record { letter = c; params = xs } ∷ w)
with_first c (made xs) (fault n) = fault n

-- a successor with its arguments worked out from left to right; the first fault counts
abbrev pub successor : Env → List Piece → Outcome
successor g [] = grown []
successor g (p ∷ ps) = with_first p.letter (arguments g p.arguments) (successor g ps)

module _ (l : Option Symbol) (s : Symbol) (r : Option Symbol) where
  -- a guard that faults decides as one that is true does
  abbrev pub by_verdict : Verdict → Rule → Outcome
  by_verdict passes u = successor (names_at l s r u) u.successor
  by_verdict fails u = itself
  by_verdict (faults n) u = fault n

  abbrev pub by_rule : Option Rule → Outcome
  by_rule None = itself
  by_rule (Some u) = by_verdict (says l s r u) u

  -- what becomes of the module s in a book with these rules
  abbrev pub becomes : List Rule → Outcome
  becomes us = by_rule (winner l s r us)
