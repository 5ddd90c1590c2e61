use Rattle.std.proofs.Common.{Some, get_or, refl, subst}
use Rattle.tokens.specs.Readers.{Takes}
use Rattle.book.specs.Grammar.{small}
use Rattle.lines.proofs.Glyphs.{name_real}
use Rattle.lines.proofs.parser.single.letter.Goals as goal

pub returns-in-Some-Name-clause-read : goal.returns-in-Some-Name-clause-read
returns-in-Some-Name-clause-read c =
    let s = subst (λ t. Takes c.args.reader.now (Some t) c.next.new.self) c.in-Some-Name.field-0-is c.in-Some-Name.ensures.steps in
    let b = get_or c.in-Some-Name.part.now 0 0 in
    record { glyph_is = small b; spelt = s.whole; meant = refl; real = name_real b s.formed.1 }
