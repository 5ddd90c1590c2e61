use Rattle.std.proofs.Common.{rules}
use Rattle.word.specs.Records.{symbol_of}
use Rattle.plot.specs.Views.{view, took, ended, Steps}
use Rattle.plot.proofs.Running.{runs_on, runs_none, runs_stopped}
use Rattle.plot.proofs.plot.Plot.run.Goals as goal

pub returns-in-Err : goal.returns-in-Err
returns-in-Err g c =
    runs_stopped (view (g.S.Source.means c.args.self.now.source) c.args.self.now.inner) (g.K.Sheet.means c.args.sheet.now) c.in-Err.stop (g.K.Sheet.means c.step.new.sheet) (view (g.S.Source.means c.step.new.self.source) c.step.new.self.inner) c.in-Err.ensures

pub returns-in-Ok-None : goal.returns-in-Ok-None
returns-in-Ok-None g c =
    let v = view (g.S.Source.means c.args.self.now.source) c.args.self.now.inner in
    let u = view (g.S.Source.means c.step.new.self.source) c.step.new.self.inner in
    let step : Steps v (g.K.Sheet.means c.args.sheet.now) ended (g.K.Sheet.means c.step.new.sheet) u = search rules in
    runs_none v (g.K.Sheet.means c.args.sheet.now) (g.K.Sheet.means c.step.new.sheet) u step

pub returns-in-Ok-Some : goal.returns-in-Ok-Some
returns-in-Ok-Some g c =
    let v = view (g.S.Source.means c.args.self.now.source) c.args.self.now.inner in
    let u = view (g.S.Source.means c.step.new.self.source) c.step.new.self.inner in
    let m = symbol_of c.in-Ok-Some.field-0-0 in
    let step : Steps v (g.K.Sheet.means c.args.sheet.now) (took m) (g.K.Sheet.means c.step.new.sheet) u = search rules in
    runs_on v (g.K.Sheet.means c.args.sheet.now) m (g.K.Sheet.means c.step.new.sheet) u c.follow.result (g.K.Sheet.means c.follow.new.sheet) (view (g.S.Source.means c.follow.new.self.source) c.follow.new.self.inner) step c.follow.ensures
