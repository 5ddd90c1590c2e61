use Rattle.generation.proofs.Sentences.{neighbours_are}
use Rattle.generation.proofs.neighbours_are.Goals as goal

pub returns : goal.returns
returns c = neighbours_are
