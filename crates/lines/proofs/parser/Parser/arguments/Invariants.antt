use Rattle.std.proofs.Common.{◌≡◌, ◌≤◌, false, length}
use Rattle.tokens.specs.Readers.{first_sign}
use Rattle.lines.specs.Fits.{joins}
use Rattle.lines.specs.Parsing.{left, laid}
use Rattle.lines.proofs.Growing.{Arguing}
use Rattle.lines.proofs.parser.Parser.arguments.Given as goal

abbrev pub invariant-loop-self : goal.invariant-loop-self
invariant-loop-self l = Arguing l.initial.count l.count (left l.initial.self) (left l.self) (laid l.initial.self) (laid l.self) × (joins (first_sign (left l.self)) ≡ false) × (l.count ≤ 3)

abbrev pub decreases-loop-self : goal.decreases-loop-self
decreases-loop-self l = length (left l.self)
