use Rattle.std.proofs.Common.{◌≡◌, length}
use Rattle.word.specs.Words.{Meaning}
use Rattle.pruner.specs.Streaming.{left_in}
use Rattle.pruner.proofs.PrunerSource.draw.Given as goal

-- what the pruner means is what it meant at entry
abbrev pub invariant-loop-module : goal.invariant-loop-module
invariant-loop-module g l =
    let means = g.S.Source.means in
    let is : Meaning = left_in l.self.state (means l.self.below) in
    let was : Meaning = left_in l.initial.self.state (means l.initial.self.below) in
    (is.told.modules ≡ was.told.modules) × (is.told.ending ≡ was.told.ending) × (is.opened ≡ was.opened) × (is.generation ≡ was.generation)

abbrev pub decreases-loop-module : goal.decreases-loop-module
decreases-loop-module g l = length (g.S.Source.means l.self.below).told.modules
