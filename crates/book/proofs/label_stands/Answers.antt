use Rattle.book.proofs.Winning.{label}
use Rattle.book.proofs.label_stands.Goals as goal

pub returns : goal.returns
returns c = label
