use Rattle.std.proofs.Common.{◌≡◌, true, Option, Some, None, sym, refl, ap, ◌∙◌, arith}
use Rattle.std.specs.Option.{option_eq}
use Rattle.std.proofs.lemmas.Bool.{both_ways}
use Rattle.std.proofs.lemmas.Bool.Decides.{nat_tests}
use Rattle.tokens.specs.declared.token.Sign.{Sign}
use Rattle.tokens.specs.contracts.token.SignPartialEq.TheImpl.{eq-value}
use Rattle.tokens.specs.Readers.{unread}
use Rattle.lines.proofs.Signs.{passed}
use Rattle.lines.proofs.parser.single.takes.Goals as goal

same : (a b : Sign) → eq-value.it a b ≡ true → a ≡ b
same a b e = grind (arith, nat_tests)

stands : (o : Option Sign) (s : Sign) → option_eq eq-value.it o (Some s) ≡ true → Some s ≡ o
stands None s e = absurd (both_ways true (sym e) refl)
stands (Some x) s e = ap Some (sym (same x s e))

pub returns-then-stands-clause-took : goal.returns-then-stands-clause-took
returns-then-stands-clause-took c =
    rw c.if-stands.true (passed (unread c.args.reader.now) (unread c.pass.new.self) c.args.sign (stands c.sign.result c.args.sign (sym c.if-stands.ensures) ∙ c.sign.ensures) c.pass.ensures.whole)
