use Rattle.std.proofs.Common.{refl, ap}
use Rattle.tokens.specs.Tokens.{sign}
use Rattle.book.specs.Grammar.{high}
use Rattle.lines.proofs.parser.single.lettering.Goals as goal

pub returns-in-Letter : goal.returns-in-Letter
returns-in-Letter c = record { glyph_is = high c.in-Letter.c; spelt = ap sign c.in-Letter.is; meant = refl }
