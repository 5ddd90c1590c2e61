use Rattle.std.proofs.Common.{Some, sym, refl, ap, ◌∙◌, subst}
use Rattle.tokens.specs.Readers.{unread, ahead, Takes}
use Rattle.lines.proofs.Steps.{refused, missing, there}
use Rattle.lines.proofs.Forming.{no_number, long_number, no_colon}
use Rattle.lines.proofs.parser.forms.printed.Goals as goal

pub returns-in_default : goal.returns-in_default
returns-in_default c =
    let t = c.in_ok-digits.field-0 in
    let s = subst (λ o. Takes c.args.reader.now o c.next.new.self) (sym (there c.next.result t c.in_ok-digits.ensures.value)) c.next.ensures.steps in
    (refl, no_number t (unread c.args.reader.now) (ahead c.next.new.self) s.whole c.in_default.not-Number)

pub returns-in_err-n : goal.returns-in_err-n
returns-in_err-n c =
    let digits = c.in-Number.digits.now in
    let s = subst (λ o. Takes c.args.reader.now o c.next.new.self) (sym (there c.next.result c.in_ok-digits.field-0 c.in_ok-digits.ensures.value) ∙ ap Some c.in-Number.is) c.next.ensures.steps in
    let m = missing c.number.result _ c.in_err-n.ensures.value in
    rw (refused c.from_residual-in_err-n.result c.from_residual-in_err-n.ensures.1 m.1)
    (refl, λ other. long_number digits (unread c.args.reader.now) (unread c.next.new.self) s.whole (sym m.0 ∙ c.number.ensures.value) s.formed.0 s.formed.1)

pub returns-in_err-expect : goal.returns-in_err-expect
returns-in_err-expect c =
    let digits = c.in-Number.digits.now in
    let s = subst (λ o. Takes c.args.reader.now o c.next.new.self) (sym (there c.next.result c.in_ok-digits.field-0 c.in_ok-digits.ensures.value) ∙ ap Some c.in-Number.is) c.next.ensures.steps in
    rw (refused c.from_residual-in_err-expect.result c.from_residual-in_err-expect.ensures.1 c.in_err-expect.ensures.read.0)
    (refl, λ other. no_colon digits c.in_ok-n.n (unread c.args.reader.now) (unread c.next.new.self) s.whole (there c.number.result c.in_ok-n.n c.in_ok-n.ensures.value ∙ c.number.ensures.value) c.in_err-expect.ensures.read.1)
