use Rattle.std.proofs.Common.{sym, ap, ◌∙◌, arith}
use Rattle.word.specs.Records.{symbol_of}
use Rattle.generation.specs.Stream.{passed}
use Rattle.generation.specs.Tables.{table}
use Rattle.generation.proofs.Noting.{after_open, handed_on, noted}
use Rattle.generation.proofs.lefts.Lefts.note.Goals as goal

pub returns-then-symbol-eq91 : goal.returns-then-symbol-eq91
returns-then-symbol-eq91 c some is =
    let l = c.args.self.now in
    let s = symbol_of c.args.symbol in
    let deeper = after_open c.args.depth.brackets s c.if-symbol-eq91.true in
    handed_on l.row l.wide some c.from-at.result c.args.symbol (omega (arith, deeper, c.requires, c.from-at.ensures)) c.if-symbol-eq91.true c.index-self-at.result
    ∙ ap (λ d. passed some d s s (table l)) c.from-at.ensures

pub returns-then-not-ignored : goal.returns-then-not-ignored
returns-then-not-ignored c some is =
    let l = c.args.self.now in
    let s = symbol_of c.args.symbol in
    noted l.row l.wide some c.from-at.result c.args.symbol (omega (arith, c.args.depth.shallow, c.from-at.ensures)) c.if-symbol-eq91.false c.if-not-is_bracket.ensures (sym (is ∙ c.if-not-ignored.true))
    ∙ ap (λ d. passed some d s s (table l)) c.from-at.ensures
