use Rattle.std.proofs.Common.{sym, subst}
use Rattle.lines.specs.Parts.{TookAsked}
use Rattle.lines.specs.Parsing.{left, laid}
use Rattle.lines.proofs.Guarding.{read_asked, unasked}
use Rattle.lines.proofs.parser.Parser.asked.Goals as goal

pub returns-then-takes : goal.returns-then-takes
returns-then-takes c = read_asked c.guard.result (left c.args.self.now) _ (left c.guard.new.self) (laid c.args.self.now) (laid c.guard.new.self) c.if-takes.ensures.took c.guard.ensures

pub returns-else-takes : goal.returns-else-takes
returns-else-takes c =
    let ts = left c.args.self.now in
    let cs = laid c.args.self.now in
    let e = c.if-takes.ensures.took in
    subst (λ l. TookAsked ts l cs cs) (sym e.0) (unasked ts cs e.1)
