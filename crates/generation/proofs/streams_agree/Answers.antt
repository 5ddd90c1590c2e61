use Rattle.generation.proofs.Agreement.{streams_agree}
use Rattle.generation.proofs.streams_agree.Goals as goal

pub returns : goal.returns
returns c = streams_agree
