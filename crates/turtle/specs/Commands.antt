-- What a letter asks of the turtle.
use Rattle.std.specs.Prelude.{ℕ, Bool, cond, codes, Some, None, Option}
use Prim.Native.String.{String}
use Rattle.word.specs.Symbols.{among}
use Rattle.turtle.specs.declared.turn.Turn.{Turn}
use Rattle.turtle.specs.declared.turn.Turn.TheVariants.{Left, Right, Down, Up, RollLeft, RollRight, About}
use Rattle.turtle.specs.declared.command.Command.{Command}
use Rattle.turtle.specs.declared.command.Command.TheVariants.{Draw, Move, Nothing}
use Rattle.turtle.specs.declared.command.Command.TheVariants as command

abbrev is : String → ℕ → Bool
is t c = among c (codes t)

abbrev pub tilt_of : ℕ → Option Turn
tilt_of c =
    cond (is "&" c) (Some Down)
    (cond (is "^" c) (Some Up)
    (cond (is "\\" c) (Some RollLeft)
    (cond (is "/" c) (Some RollRight)
    None)))

abbrev pub command_of : ℕ → Command
command_of c =
    cond (is "F" c) Draw
    (cond (is "+" c) (command.Turn Left)
    (cond (is "-" c) (command.Turn Right)
    (cond (is "|" c) (command.Turn About)
    (for_others (tilt_of c)))))
  where
    for_others : Option Turn → Command
    for_others (Some t) = command.Turn t
    for_others None = cond (is "f" c) Move Nothing
