use Rattle.std.proofs.Common.{ap, subst}
use Rattle.book.specs.Books.{rule}
use Rattle.rules.specs.Drafts.{rule_of}
use Rattle.lines.specs.Reading.{Says}
use Rattle.lines.specs.Records.{entry_of}
use Rattle.books.specs.Kinds.{open_book}
use Rattle.books.proofs.Answering.{answered}
use Rattle.books.proofs.open_book.OpenBook.load.Goals as goal

pub returns-in-Rule : goal.returns-in-Rule
returns-in-Rule c =
    let read = c.in_ok-said.ensures in
    answered c.args.line.now (open_book c.args.self.now) (open_book c.add.new.self) (rule (rule_of c.in-Rule.draft)) read.0
    (subst (Says c.args.line.now) (ap entry_of c.in-Rule.is) read.1) c.add.result c.add.ensures.answer c.add.ensures.after
