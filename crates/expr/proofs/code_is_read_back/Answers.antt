use Rattle.expr.proofs.Examples.{reads_back}
use Rattle.expr.proofs.code_is_read_back.Goals as goal

pub returns : goal.returns
returns c = reads_back
