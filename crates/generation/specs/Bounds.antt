-- Internal. A fault that may end a word.
use Rattle.std.specs.Prelude.{Bool, true, Some, None, Option}
use Rattle.word.specs.declared.fault.Fault.{Fault}
use Rattle.word.specs.Words.{broken, in_bounds}

abbrev pub bounded : Option Fault → Bool
bounded None = true
bounded (Some f) = in_bounds (broken f)
