use Rattle.std.proofs.Common.{None, Ok, arith, rules}
use Rattle.word.specs.Records.{symbol_of}
use Rattle.walk.specs.Walkers.{walker, Takes}
use Rattle.plot.specs.Views.{Comes}
use Rattle.plot.proofs.Running.{one_more}
use Rattle.plot.proofs.plot.Plot.follow.Goals as goal

pub loop-next-preserved : goal.loop-next-preserved
loop-next-preserved g c =
    let s = g.S.Source.means c.loop-next.self.source in
    let n = c.loop-next.taken in
    let k = walker c.loop-next.self.inner.walker in
    let b = g.K.Sheet.means c.loop-next.sheet in
    let m = symbol_of c.in-Ok-Some.next in
    let s' = g.S.Source.means c.draw.new.self in
    let k' = walker c.take.new.self in
    let d = g.K.Sheet.means c.take.new.sheet in
    let so_far = c.loop-next.invariant in
    let comes : Comes None s m s' = search rules in
    let takes : Takes k b m (Ok tt) k' d = search rules in
    let more = c.counted-taken.ensures in
    (omega (arith, more), so_far.1, one_more _ _ s n k c.loop-next.self.inner.ending b m s' c.counted-taken.result k' d so_far.2 comes takes more)
