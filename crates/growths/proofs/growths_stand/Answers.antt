use Rattle.growths.proofs.WorkedGrowths.{worked_growths}
use Rattle.growths.proofs.growths_stand.Goals as goal

pub returns : goal.returns
returns c = worked_growths
