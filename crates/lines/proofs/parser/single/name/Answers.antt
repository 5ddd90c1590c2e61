use Rattle.std.proofs.Common.{sym, refl, subst}
use Rattle.tokens.specs.Readers.{unread, ahead, Takes}
use Rattle.lines.proofs.Glyphs.{unnamed}
use Rattle.lines.proofs.Steps.{there}
use Rattle.lines.proofs.parser.single.name.Goals as goal

pub returns-in_default : goal.returns-in_default
returns-in_default c =
    let t = c.in_ok-part.field-0 in
    let s = subst (λ o. Takes c.args.reader.now o c.next.new.self) (sym (there c.next.result t c.in_ok-part.ensures.value)) c.next.ensures.steps in
    (refl, unnamed t (unread c.args.reader.now) (ahead c.next.new.self) s.whole c.in_default.not-Name)
