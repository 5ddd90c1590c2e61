use Rattle.std.proofs.Common.{false}
use Rattle.expr.proofs.Tables.{all_same}
use Rattle.books.proofs.ignored.Ignored.new.Goals as goal

pub returns : goal.returns
returns c x = all_same 256 false x
