use Rattle.std.proofs.Common.{None, sym, subst}
use Rattle.tokens.specs.Readers.{unread}
use Rattle.lines.specs.Parts.{TookBehind}
use Rattle.lines.proofs.Forming.{some_behind, none_behind}
use Rattle.lines.proofs.parser.forms.behind.Goals as goal

pub returns-in_ok-right : goal.returns-in_ok-right
returns-in_ok-right c = some_behind c.in_ok-right.right (unread c.args.reader.now) _ (unread c.form.new.reader) c.if-takes.ensures.took c.in_ok-right.ensures

pub returns-else-takes : goal.returns-else-takes
returns-else-takes c =
    let ts = unread c.args.reader.now in
    let e = c.if-takes.ensures.took in
    subst (λ l. TookBehind ts l None) (sym e.0) (none_behind ts e.1)
