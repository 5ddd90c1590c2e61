use Rattle.generation.specs.Writing.{turns_left}
use Rattle.generation.proofs.Wrote.{Wrote}
use Rattle.generation.proofs.rewriter.Rewriter.write.Given as goal

abbrev pub invariant-loop-count : goal.invariant-loop-count
invariant-loop-count l = Wrote l.book l.fn.self l.fn.places l.beyond l.count l.places l.self

abbrev pub decreases-loop-count : goal.decreases-loop-count
decreases-loop-count l = turns_left l.self
