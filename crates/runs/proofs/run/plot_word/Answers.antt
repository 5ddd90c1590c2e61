use Rattle.std.proofs.Common.{sym, ap, subst}
use Rattle.word.specs.Words.{Meaning, Lawful}
use Rattle.sheet.specs.Sheets.{Content}
use Rattle.buffered.specs.Held.{left_in}
use Rattle.plot.specs.Views.{View, view}
use Rattle.runs.specs.Plotted.{Plotted}
use Rattle.runs.proofs.Whole.{plotted}
use Rattle.runs.proofs.run.plot_word.Goals as goal

pub returns : goal.returns
returns g c =
    let run = c.run_to_end.ensures in
    let b = c.new.result in
    let m : Meaning = left_in b.row b.at b.count b.first.brackets (g.S.Source.means b.below) in
    let p = c.new-plot.result.source in
    let before : View = view (left_in p.row p.at p.count p.first.brackets (g.S.Source.means p.below)) c.new-plot.result.inner in
    let q = c.run_to_end.new.plot.source in
    let after : View = view (left_in q.row q.at q.count q.first.brackets (g.S.Source.means q.below)) c.run_to_end.new.plot.inner in
    subst (λ (x : Meaning). Plotted x after) c.new.ensures
    (plotted m before _ run.0 run.2 run.1 c.run_to_end.result _ after (ap (λ (k : Content). k.space) c.new-2.ensures) (subst Lawful (sym c.new.ensures) (g.met.S.Source.lawful c.args.source)) c.new-plot.ensures.new run.3 run.4)
