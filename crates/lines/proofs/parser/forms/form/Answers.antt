use Rattle.std.proofs.Common.{◌≡◌, false, sym, refl, subst}
use Rattle.tokens.specs.declared.token.Sign.TheVariants.{Opens}
use Rattle.tokens.specs.Readers.{unread, first_sign}
use Rattle.lines.specs.Fits.{is}
use Rattle.lines.specs.Parts.{TookLetter}
use Rattle.lines.proofs.Steps.{refused}
use Rattle.lines.proofs.Forming.{no_form, read_named, read_bare}
use Rattle.lines.proofs.parser.forms.form.Goals as goal

pub returns-in_err-letter : goal.returns-in_err-letter
returns-in_err-letter c =
    rw (refused c.from_residual.result c.from_residual.ensures.1 c.in_err-letter.ensures.read.0) (refl, no_form (unread c.args.reader.now) c.in_err-letter.ensures.read.1)

pub returns-then-takes : goal.returns-then-takes
returns-then-takes c =
    read_named c.names.result c.in_ok-letter.letter (unread c.args.reader.now) (unread c.letter.new.reader) _ (unread c.names.new.reader) c.in_ok-letter.ensures.read c.if-takes.ensures.took c.names.ensures

pub returns-else-takes : goal.returns-else-takes
returns-else-takes c =
    let e = c.if-takes.ensures.took in
    read_bare _ _ (unread c.takes.new.reader) (subst (λ l. TookLetter (unread c.args.reader.now) l c.in_ok-letter.letter) (sym e.0) c.in_ok-letter.ensures.read) c.new.ensures (subst (λ l. is Opens (first_sign l) ≡ false) (sym e.0) e.1)
