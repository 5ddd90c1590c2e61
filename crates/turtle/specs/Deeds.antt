-- What a module has the turtle do.
use Rattle.std.specs.Prelude.{ℕ, ◌/◌, Bool, cond, ◌&&◌, List, [], ◌∷◌, ℤ, pos, ◌==◌, int_le, unsigned_abs}
use Rattle.word.specs.Symbols.{Symbol}
use Rattle.turtle.specs.Vectors.{plus, times}
use Rattle.turtle.specs.Turns.{faces, reoriented}
use Rattle.turtle.specs.Poses.{Stance, Stroke, all_in_bounds}
use Rattle.turtle.specs.Commands.{command_of}
use Rattle.turtle.specs.declared.command.Command.{Command}
use Rattle.turtle.specs.declared.command.Command.TheVariants.{Draw, Move, Turn, Nothing}

-- the turtle goes to a stance, perhaps the one that it has, or draws on the way to one, or cannot, for the limit of this number
pub data Deed : Type 0 where
  goes : Stance → Deed
  draws : Stroke → Stance → Deed
  breaks : ℕ → Deed

-- the first parameter, or 1
abbrev pub stride : List ℤ → ℤ
stride [] = pos 1
stride (n ∷ ns) = n

-- the stance at the length n ahead, and the line to there
abbrev pub ahead : ℤ → Stance → Stance
ahead n s = record { place = plus s.place (times n (faces s.orientation).ahead); orientation = s.orientation }

abbrev pub line : ℤ → Stance → Stroke
line n s = record { start = s.place; heading = s.orientation / 4; length = unsigned_abs n }

-- 0 to 4,095
abbrev pub is_length : ℤ → Bool
is_length n = int_le (pos 0) n && int_le n (pos 4_095)

-- d is done by the length n, unless n is no length, which breaks limit 41, or is 0, at which the turtle stays as it is, or the
-- end is out of bounds, which breaks limit 42
abbrev pub limited : ℤ → Stance → Deed → Deed
limited n s d =
    cond (is_length n)
    (cond (unsigned_abs n == 0) (goes s) (cond (all_in_bounds (ahead n s).place) d (breaks 42)))
    (breaks 41)

abbrev pub done : Command → ℤ → Stance → Deed
done Draw n s = limited n s (draws (line n s) (ahead n s))
done Move n s = limited n s (goes (ahead n s))
done (Turn t) n s = goes (record { place = s.place; orientation = reoriented t s.orientation })
done Nothing n s = goes s

abbrev pub deed : Symbol → Stance → Deed
deed m s = done (command_of m.letter) (stride m.params) s
