use Rattle.std.proofs.Common.{◌≡◌, length}
use Rattle.job.specs.Reading.{to_come}
use Rattle.job.proofs.lines.walk.LinesIterator.next.Given as goal

-- only empty lines have been passed over
abbrev pub invariant-loop-number : goal.invariant-loop-number
invariant-loop-number l = to_come l.self ≡ to_come l.initial.self

abbrev pub decreases-loop-number : goal.decreases-loop-number
decreases-loop-number l = length l.self.rest.now
