use Rattle.word.proofs.Drawn.{Drawing}
use Rattle.word.proofs.source.Source.draw_some.Given as goal

abbrev pub invariant-loop-count : goal.invariant-loop-count
invariant-loop-count g l = Drawing (g.Self.Source.means l.fn.self) l.fn.places l.count l.places (g.Self.Source.means l.self)
