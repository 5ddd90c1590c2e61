use Rattle.std.proofs.Common.{Some, sym, refl, ap, ◌∙◌}
use Rattle.tokens.specs.declared.token.Sign.TheVariants.{Rejoins}
use Rattle.tokens.specs.Readers.{unread}
use Rattle.lines.specs.Parsing.{left, laid}
use Rattle.lines.proofs.Signs.{passed}
use Rattle.lines.proofs.Growing.{read_rejoins}
use Rattle.lines.proofs.parser.Parser.piece.Goals as goal

pub returns-in-Some-Rejoins : goal.returns-in-Some-Rejoins
returns-in-Some-Rejoins c =
    let ts = left c.args.self.now in
    let us = unread c.pass-in-Some-Rejoins.new.self in
    read_rejoins _ ts us (laid c.args.self.now) (passed ts us Rejoins (ap Some (sym c.in-Some-Rejoins.field-0-is) ∙ sym c.in-Some-Rejoins.is ∙ c.sign.ensures) c.pass-in-Some-Rejoins.ensures.whole) refl
