use Rattle.std.proofs.Common.{◌≡◌, false, sym, ap, ◌∙◌, subst, arith}
use Rattle.tokens.specs.declared.token.Sign.TheVariants.{Ignores}
use Rattle.tokens.specs.Readers.{unread, first_sign}
use Rattle.rules.specs.Drafts.{rule_of}
use Rattle.lines.specs.Records.{letters_in}
use Rattle.lines.specs.Fits.{is, begins, fits}
use Rattle.lines.proofs.Steps.{refused}
use Rattle.lines.proofs.Ignoring.{unspelt, says_rule, says_letters}
use Rattle.lines.proofs.read.read.Goals as goal

pub returns-in_err-letters : goal.returns-in_err-letters
returns-in_err-letters c =
    let lost = ap (fits begins) (sym c.new-reader.ensures.whole ∙ c.if-takes.ensures.took) ∙ c.in_err-letters.ensures.1 in
    rw (refused c.from_residual.result c.from_residual.ensures.1 c.in_err-letters.ensures.0) (omega arith, unspelt c.args.line.now lost)

pub returns-in_err-rule : goal.returns-in_err-rule
returns-in_err-rule c =
    let e = c.if-takes.ensures.took in
    let lost = ap (fits begins) (sym c.new-reader.ensures.whole ∙ sym e.0) ∙ c.in_err-rule.ensures.1 (subst (λ l. is Ignores (first_sign l) ≡ false) (sym e.0) e.1) in
    rw (refused c.from_residual-in_err-rule.result c.from_residual-in_err-rule.ensures.1 c.in_err-rule.ensures.0) (omega arith, unspelt c.args.line.now lost)

pub returns-in_ok-letters : goal.returns-in_ok-letters
returns-in_ok-letters c =
    (omega arith, says_letters c.args.line.now (unread c.new-reader.result) (unread c.takes.new.reader) (letters_in c.in_ok-letters.field-0) c.new-reader.ensures.whole c.if-takes.ensures.took c.in_ok-letters.ensures)

pub returns-in_ok-rule : goal.returns-in_ok-rule
returns-in_ok-rule c =
    let t = c.in_ok-rule.ensures in
    (omega arith, says_rule c.args.line.now (unread c.takes.new.reader) t.0 (rule_of c.in_ok-rule.field-0) (c.if-takes.ensures.took.0 ∙ c.new-reader.ensures.whole) t.1 t.2)
