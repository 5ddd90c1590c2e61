use Rattle.std.proofs.Common.{drop, arith}
use Rattle.generation.specs.Layers.{lawful_stacked}
use Rattle.generation.proofs.Reading.{one_more}
use Rattle.generation.proofs.generations.Generations.add.Goals as goal

pub returns-clause-means : goal.returns-clause-means
returns-clause-means g c =
    let s = c.args.self.now in
    let m = g.S.Source.means s.below in
    let lawful = lawful_stacked s.book s.goes_on (drop s.top s.layers) m s.chained (g.met.S.Source.lawful s.below) in
    one_more s.book s.layers s.top m c.new.result _ _ c.requires (omega (arith, s.wide, s.within)) lawful c.new.ensures c.generation-generation.ensures c.open_brackets-depth.ensures
