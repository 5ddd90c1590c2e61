use Rattle.generation.proofs.Lawful.{stays_lawful}
use Rattle.generation.proofs.generations_are_lawful.Goals as goal

pub returns : goal.returns
returns c = stays_lawful
