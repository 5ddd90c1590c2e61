use Rattle.std.proofs.Common.{◌≡◌, ◌<◌, false, sym, refl, ◌∙◌, subst, arith}
use Rattle.tokens.specs.declared.token.Sign.TheVariants.{Closes}
use Rattle.tokens.specs.Readers.{unread, first_sign}
use Rattle.lines.specs.Fits.{is}
use Rattle.lines.proofs.Steps.{refused}
use Rattle.lines.proofs.Forming.{count, count_few, one_name, took_names, lost_fourth, lost_name, lost_close}
use Rattle.lines.proofs.parser.forms.names.Goals as goal

pub returns-then-len-from : goal.returns-then-len-from
returns-then-len-from c =
    let f = c.named-form.ensures in
    (refl, lost_fourth c.args.bare c.named-form.result c.in_ok-first.first (unread c.args.reader.now) (unread c.name.new.reader) c.requires c.in_ok-first.ensures.0 f.letter f.names c.loop-form.form (unread c.loop-form.reader) _ c.loop-form.invariant (omega (arith, c.len.ensures, c.from.ensures, c.if-len-from.true)) c.loop-form-test.ensures.took)

pub returns-in_err-next : goal.returns-in_err-next
returns-in_err-next c =
    let f = c.named-form.ensures in
    let most = count_few c.loop-form.form in
    let few : count c.loop-form.form < 3 = omega arith in
    rw (refused c.from_residual-in_err-next.result c.from_residual-in_err-next.ensures.1 c.in_err-next.ensures.0)
    (refl, lost_name c.args.bare c.named-form.result c.in_ok-first.first (unread c.args.reader.now) (unread c.name.new.reader) c.requires c.in_ok-first.ensures.0 f.letter f.names c.loop-form.form (unread c.loop-form.reader) _ c.loop-form.invariant few c.loop-form-test.ensures.took c.in_err-next.ensures.1)

pub named-form-requires-in-loop-form-clause-few : goal.named-form-requires-in-loop-form-clause-few
named-form-requires-in-loop-form-clause-few c = let most = count_few c.loop-form.form in omega arith

pub loop-form-preserved : goal.loop-form-preserved
loop-form-preserved c =
    let f = c.named-form-in-loop-form.ensures in
    let most = count_few c.loop-form.form in
    let few : count c.loop-form.form < 3 = omega arith in
    one_name c.named-form.result c.loop-form.form c.named-form-in-loop-form.result c.in_ok-next.next (unread c.name.new.reader) (unread c.loop-form.reader) _ (unread c.name-in-loop-form.new.reader) c.loop-form.invariant few c.loop-form-test.ensures.took c.in_ok-next.ensures.0 f.letter f.names

pub returns-in_err-expect : goal.returns-in_err-expect
returns-in_err-expect c =
    let f = c.named-form.ensures in
    let e = c.loop-form-test.ensures.took in
    rw (refused c.from_residual-in_err-expect.result c.from_residual-in_err-expect.ensures.1 c.in_err-expect.ensures.read.0)
    (refl, lost_close c.args.bare c.named-form.result c.in_ok-first.first (unread c.args.reader.now) (unread c.name.new.reader) c.requires c.in_ok-first.ensures.0 f.letter f.names c.loop-form.form (unread c.loop-form.reader) c.loop-form.invariant e.1 (subst (λ l. is Closes (first_sign l) ≡ false) e.0 c.in_err-expect.ensures.read.1))

pub returns : goal.returns
returns c =
    let f = c.named-form.ensures in
    let e = c.loop-form-test.ensures.took in
    took_names c.args.bare c.named-form.result c.in_ok-first.first (unread c.args.reader.now) (unread c.name.new.reader) c.requires c.in_ok-first.ensures.0 f.letter f.names c.loop-form.form (unread c.loop-form.reader) (unread c.expect.new.reader) c.loop-form.invariant (sym e.0 ∙ c.in_ok-expect.ensures.read)
