-- Internal. What a record of left neighbours shows.
use Rattle.word.specs.Symbols.{Symbol}
use Rattle.word.specs.Records.{symbol_of}
use Rattle.generation.specs.declared.lefts.Lefts.{Lefts}
use Rattle.generation.specs.Stream.{Table, shown}

abbrev pub table : Lefts → Table Symbol
table l = shown symbol_of l.row
