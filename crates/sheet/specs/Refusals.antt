-- The number of the refusal of a full sheet.
use Rattle.std.specs.Prelude.{ℕ}
use Rattle.sheet.specs.declared.sheet.NoSpace.{NoSpace}

abbrev pub refusal_of : NoSpace → ℕ
refusal_of e = 50
