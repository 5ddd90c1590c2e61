use Rattle.std.proofs.Common.{length}
use Rattle.tokens.specs.Readers.{unread}
use Rattle.lines.proofs.Forming.{Naming}
use Rattle.lines.proofs.parser.forms.names.Given as goal

abbrev pub invariant-loop-form : goal.invariant-loop-form
invariant-loop-form l = Naming l.initial.form l.form (unread l.initial.reader) (unread l.reader)

abbrev pub decreases-loop-form : goal.decreases-loop-form
decreases-loop-form l = length (unread l.reader)
