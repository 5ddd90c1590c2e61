use Rattle.std.proofs.Common.{length}
use Rattle.tokens.specs.Readers.{first_sign}
use Rattle.book.specs.Grammar.{guard, sum}
use Rattle.lines.specs.Parts.{Stops}
use Rattle.lines.specs.Parsing.{left, laid}
use Rattle.lines.proofs.Steps.{Onward}
use Rattle.lines.proofs.parser.Parser.guard.Given as goal

abbrev pub invariant-loop-self : goal.invariant-loop-self
invariant-loop-self l = Onward guard (left l.initial.self) (left l.self) (laid l.initial.self) (laid l.self) × Stops sum (first_sign (left l.self))

abbrev pub decreases-loop-self : goal.decreases-loop-self
decreases-loop-self l = length (left l.self)
