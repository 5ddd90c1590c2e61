use Rattle.generation.proofs.Passing.{may_pass}
use Rattle.generation.proofs.rewriter.Rewriter.turn.Goals as goal

pub outcome-requires : goal.outcome-requires
outcome-requires c = record { may = may_pass c.args.self.now.window c.args.symbol c.requires.first c.requires.some; none = c.requires.none; sound = c.requires.sound }
