use Rattle.std.proofs.Common.{◌≡◌, ◌≤◌, List, length, None}
use Rattle.std.specs.Option.{option_map}
use Rattle.word.specs.Symbols.{Symbol}
use Rattle.word.specs.Records.{symbol_of}
use Rattle.walk.specs.Walkers.{walker}
use Rattle.plot.specs.Views.{view}
use Rattle.plot.specs.ToTheEnd.{TakesAll}
use Rattle.plot.proofs.Running.{free}
use Rattle.plot.proofs.plot.Plot.follow.Given as goal

-- some modules were taken, as many as are counted in hand, and none is held
abbrev pub invariant-loop-next : goal.invariant-loop-next
invariant-loop-next g l =
    (l.taken ≤ 16_000_000)
    × (option_map symbol_of l.self.inner.held ≡ None)
    × ((w : List Symbol)
    × TakesAll
    (view (g.S.Source.means l.initial.self.source) l.initial.self.inner)
    (g.K.Sheet.means l.initial.sheet)
    w
    (g.K.Sheet.means l.sheet)
    (free (g.S.Source.means l.self.source) l.taken (walker l.self.inner.walker) l.self.inner.ending))

abbrev pub decreases-loop-next : goal.decreases-loop-next
decreases-loop-next g l = length (g.S.Source.means l.self.source).told.modules
