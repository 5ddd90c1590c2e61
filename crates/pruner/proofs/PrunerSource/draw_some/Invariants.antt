use Rattle.std.proofs.Common.{◌≡◌, [], length}
use Rattle.word.specs.Records.{Tells}
use Rattle.pruner.specs.Streaming.{left_in}
use Rattle.pruner.proofs.PrunerSource.draw_some.Given as goal

-- what the pruner means is what it meant at entry, and nothing is put in a place
abbrev pub invariant-loop-count : goal.invariant-loop-count
invariant-loop-count g l =
    let means = g.S.Source.means in
    record {
      same : Tells (left_in l.initial.self.state (means l.initial.self.below)) [] (left_in l.self.state (means l.self.below));
      places : l.places ≡ l.initial.places;
    }

abbrev pub decreases-loop-count : goal.decreases-loop-count
decreases-loop-count g l = length (g.S.Source.means l.self.below).told.modules
