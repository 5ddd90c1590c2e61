-- The values that a row holds.
use Rattle.std.specs.Prelude.{ℕ, List, take}
use Rattle.rows.specs.declared.row.Row.{Row}

abbrev pub held : {T : Type 0} {N : ℕ} → Row T N → List T
held r = take r.len r.places
