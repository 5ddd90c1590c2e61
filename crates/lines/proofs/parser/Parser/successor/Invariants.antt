use Rattle.std.proofs.Common.{length}
use Rattle.rules.specs.Records.{pieces_in}
use Rattle.lines.specs.Parts.{TookPieces}
use Rattle.lines.specs.Parsing.{left, laid}
use Rattle.lines.proofs.parser.Parser.successor.Given as goal

abbrev pub invariant-loop-self : goal.invariant-loop-self
invariant-loop-self l = TookPieces (left l.initial.self) (left l.self) (laid l.initial.self) (laid l.self) (pieces_in l.pieces)

abbrev pub decreases-loop-self : goal.decreases-loop-self
decreases-loop-self l = length (left l.self)
