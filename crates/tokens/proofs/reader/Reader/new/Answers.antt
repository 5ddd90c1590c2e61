use Rattle.std.proofs.Common.{refl}
use Rattle.tokens.proofs.Lawful.{laws}
use Rattle.tokens.proofs.reader.Reader.new.Goals as goal

pub returns : goal.returns
returns c = record { start = refl; same = refl; whole = refl; laws = laws }
