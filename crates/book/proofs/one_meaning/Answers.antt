use Rattle.book.proofs.Recovered.{one_meaning}
use Rattle.book.proofs.one_meaning.Goals as goal

pub returns : goal.returns
returns c = one_meaning
