-- Modules between two depths.
use Rattle.std.specs.Prelude.{ℕ, Bool, not, ◌&&◌, List, [], ◌∷◌, ◌==◌, nat_le}
use Rattle.word.specs.Symbols.{Symbol, is_close}
use Rattle.word.specs.Words.{after}

-- from d open brackets the modules lead to e, never over 32, and none closes that is not open
abbrev pub spans : ℕ → List Symbol → ℕ → Bool
spans d [] e = nat_le d 32 && d == e
spans d (s ∷ w) e = nat_le d 32 && (not (is_close s.letter && d == 0) && spans (after d s) w e)
