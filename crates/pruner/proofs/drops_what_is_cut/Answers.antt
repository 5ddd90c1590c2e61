use Rattle.pruner.proofs.CutOff.{drops_what_is_cut}
use Rattle.pruner.proofs.drops_what_is_cut.Goals as goal

pub returns : goal.returns
returns c = drops_what_is_cut
