-- What the records of the reader hold. Internal.
use Rattle.std.specs.Prelude.{ℕ, Ok, Err, Result}
use Rattle.word.specs.declared.depth.Depth.{Depth}
use Rattle.word.specs.declared.module.Module.{Module}
use Rattle.word.specs.Records.{symbol_of}
use Rattle.seed.specs.declared.cause.Cause.{Cause}
use Rattle.seed.specs.declared.cause.Cause.TheVariants.{TooLong, Form, Range, NoneOpen, TooDeep, StillOpen}
use Rattle.seed.specs.Seeds.{Outcome, tells, wrong}

-- the cause of a fault, by its number
abbrev pub cause_number : Cause → ℕ
cause_number TooLong = 20
cause_number Form = 21
cause_number Range = 22
cause_number NoneOpen = 23
cause_number TooDeep = 24
cause_number StillOpen = 25

abbrev pub outcome_of : Result (Module × Depth) Cause → Outcome
outcome_of (Ok r) = tells (symbol_of r.0)
outcome_of (Err c) = wrong (cause_number c)
