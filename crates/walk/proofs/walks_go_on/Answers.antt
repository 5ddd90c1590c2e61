use Rattle.walk.proofs.Onwards.{onwards}
use Rattle.walk.proofs.walks_go_on.Goals as goal

pub returns : goal.returns
returns c = onwards
