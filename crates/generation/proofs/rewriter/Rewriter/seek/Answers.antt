use Rattle.std.proofs.Common.{sym, ◌∙◌}
use Rattle.word.specs.Records.{symbol_of}
use Rattle.generation.proofs.Seeking.{seen_sought}
use Rattle.generation.proofs.rewriter.Rewriter.seek.Goals as goal

pub returns : goal.returns
returns c =
    seen_sought c.args.book.now c.args.self.now (symbol_of c.args.module) c.args.beyond (sym c.is_bracket.ensures ∙ c.if-is_bracket.false)
    (sym c.looks_ahead.ensures ∙ c.if-not-looks_ahead.false) c.look.result c.look.ensures
