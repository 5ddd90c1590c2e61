use Rattle.tokens.specs.Readers.{unread}
use Rattle.lines.proofs.Signs.{taken}
use Rattle.lines.proofs.parser.single.take_as.Goals as goal

pub returns-clause-took : goal.returns-clause-took
returns-clause-took g c = taken (unread c.args.reader.now) (unread c.pass.new.self) c.sign.result c.in_ok-known.known _ c.sign.ensures c.in_ok-known.ensures c.pass.ensures.whole
