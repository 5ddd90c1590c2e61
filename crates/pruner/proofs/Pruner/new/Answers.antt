use Rattle.pruner.proofs.Agreement.{new_agrees}
use Rattle.pruner.proofs.Pruner.new.Goals as goal

pub returns : goal.returns
returns g c = search new_agrees
