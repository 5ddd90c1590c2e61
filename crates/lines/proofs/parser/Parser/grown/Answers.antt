use Rattle.std.proofs.Common.{◌-◌, refl}
use Rattle.tokens.specs.Readers.{unread}
use Rattle.lines.specs.Parsing.{left, laid}
use Rattle.lines.proofs.Steps.{refused}
use Rattle.lines.proofs.Growing.{no_piece, read_grown}
use Rattle.lines.proofs.parser.Parser.grown.Goals as goal

pub returns-in_err-letter : goal.returns-in_err-letter
returns-in_err-letter c =
    rw (refused c.from_residual.result c.from_residual.ensures.1 c.in_err-letter.ensures.read.0)
    (refl, no_piece (left c.args.self.now) c.requires.some c.requires.plain c.in_err-letter.ensures.read.1)

pub returns : goal.returns
returns c =
    read_grown _ (left c.args.self.now) (unread c.letter.new.reader) (left c.arguments.new.self) (laid c.args.self.now) (laid c.arguments.new.self) c.in_ok-letter.ensures.read c.in_ok-count.ensures
    (λ i. c.len.ensures i - c.len-before.ensures i)
