-- What a record of a few modules means.
use Rattle.std.specs.Prelude.{List, map}
use Rattle.rows.specs.declared.row.Row.{Row}
use Rattle.rows.specs.Rows.{held}
use Rattle.word.specs.declared.module.Module.{Module}
use Rattle.word.specs.Symbols.{Symbol}
use Rattle.word.specs.Records.{symbol_of}

abbrev pub Modules : Type 0
Modules = Row Module 24

abbrev pub modules_in : Modules → List Module
modules_in m = held m

abbrev pub symbols_in : Modules → List Symbol
symbols_in m = map symbol_of (modules_in m)
