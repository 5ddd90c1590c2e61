use Rattle.std.proofs.Common.{refl}
use Rattle.lines.specs.Parsing.{left, laid}
use Rattle.lines.proofs.Steps.{refused}
use Rattle.lines.proofs.Guarding.{no_arrow}
use Rattle.lines.proofs.parser.Parser.guarded.Goals as goal

pub returns-in_err-expect : goal.returns-in_err-expect
returns-in_err-expect c =
    rw (refused c.from_residual-in_err-expect.result c.from_residual-in_err-expect.ensures.1 c.in_err-expect.ensures.read.0)
    (refl, no_arrow (left c.args.self.now) (left c.asked.new.self) (laid c.args.self.now) (laid c.asked.new.self) c.in_ok-asked.ensures c.in_err-expect.ensures.read.1)
