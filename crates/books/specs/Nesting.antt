-- How the brackets of some modules nest.
use Rattle.std.specs.Prelude.{ℕ, max, Bool, not, ◌&&◌, List, [], ◌∷◌, ◌==◌}
use Rattle.word.specs.Symbols.{Symbol, is_close}
use Rattle.word.specs.Words.{after}

-- where d brackets are open, none closes that is not open, and none stays open
abbrev pub balanced : ℕ → List Symbol → Bool
balanced d [] = d == 0
balanced d (s ∷ w) = not (is_close s.letter && d == 0) && balanced (after d s) w

-- the most brackets that are ever open, where d are open before
abbrev pub deepest : ℕ → List Symbol → ℕ
deepest d [] = d
deepest d (s ∷ w) = max d (deepest (after d s) w)
