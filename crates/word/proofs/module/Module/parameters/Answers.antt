use Rattle.std.proofs.Common.{◌∙◌}
use Rattle.word.proofs.Sound.{listed}
use Rattle.word.proofs.module.Module.parameters.Goals as goal

pub returns : goal.returns
returns c = c.extend_from_slice.ensures ∙ listed c.args.self.now _ _ c.new-parameters.ensures c.from.ensures
