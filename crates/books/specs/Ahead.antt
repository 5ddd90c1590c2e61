-- Which modules look ahead.
use Rattle.std.specs.Prelude.{Bool, false, ◌&&◌, ◌||◌, List, [], ◌∷◌, is_some}
use Rattle.word.specs.Symbols.{Symbol}
use Rattle.book.specs.Rules.{Rule, agrees}

-- a rule for the letter and the parameter count of s names a neighbour on the right
abbrev pub looks_right : Symbol → Rule → Bool
looks_right s u = agrees u.predecessor s && is_some u.behind

-- a module looks ahead exactly when one of the rules does so for it
abbrev pub looks_ahead : Symbol → List Rule → Bool
looks_ahead s [] = false
looks_ahead s (u ∷ us) = looks_right s u || looks_ahead s us
