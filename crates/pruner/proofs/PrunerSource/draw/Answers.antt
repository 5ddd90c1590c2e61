use Rattle.std.proofs.Common.{Ok, Some, ◌∙◌, rules}
use Rattle.word.specs.Records.{symbol_of, Draws}
use Rattle.pruner.proofs.Parting.{dropped_streamed, dropped_open}
use Rattle.pruner.proofs.PrunerSource.draw.Goals as goal

pub loop-module-preserved : goal.loop-module-preserved
loop-module-preserved g c =
    let means = g.S.Source.means in
    let q = c.loop-module.self.state in
    let q' = c.in-Some-behind_dropped.dropping in
    let b = c.open_brackets-before.result.brackets in
    let m = means c.loop-module.self.below in
    let m' = means c.draw.new.self in
    let s = symbol_of c.in-Some.module in
    let here = c.open_brackets-before.ensures in
    let so_far = c.loop-module.invariant in
    let drawn : Draws m (Ok (Some c.in-Some.module)) m' = search rules in
    let dropped = c.in-Some-behind_dropped.ensures in (
      dropped_streamed q q' b m m' s here drawn.0 drawn.2 dropped.0 dropped.1 ∙ so_far.0,
      drawn.1 ∙ so_far.1,
      dropped_open q q' b m m' s here drawn.0 drawn.2 dropped.0 dropped.1 ∙ so_far.2,
      drawn.3 ∙ so_far.3,
    )
