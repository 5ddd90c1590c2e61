use Rattle.std.proofs.Common.{None, sym, subst}
use Rattle.tokens.specs.Readers.{unread}
use Rattle.lines.specs.Parts.{TookSides}
use Rattle.lines.proofs.Forming.{two_sides, one_side}
use Rattle.lines.proofs.parser.forms.sides.Goals as goal

pub returns-in_ok-predecessor : goal.returns-in_ok-predecessor
returns-in_ok-predecessor c =
    two_sides c.in_ok-first.first c.in_ok-predecessor.predecessor (unread c.args.reader.now) (unread c.form.new.reader) _ (unread c.form-then-takes.new.reader) c.in_ok-first.ensures c.if-takes.ensures.took c.in_ok-predecessor.ensures

pub returns-else-takes : goal.returns-else-takes
returns-else-takes c =
    let f = c.in_ok-first.first in
    let ts = unread c.args.reader.now in
    let e = c.if-takes.ensures.took in
    subst (λ l. TookSides ts l None f) (sym e.0) (one_side f ts (unread c.form.new.reader) c.in_ok-first.ensures e.1)
