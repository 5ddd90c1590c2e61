use Rattle.std.proofs.Common.{arith}
use Rattle.report.proofs.Growing.{then, whole}
use Rattle.report.proofs.Lengths.{report_short}
use Rattle.report.proofs.figures.Figures.text.Goals as goal

pub returns : goal.returns
returns c =
    let modules = rw c.from.ensures at c.push_line.ensures in
    let segments = rw c.from-2.ensures at c.push_line-2.ensures in
    let deepest = rw c.from-3.ensures at c.push_line-4.ensures in
    let length = c.push_line-3.ensures in
    let ending = c.push_ending.ensures in
    whole c.new-text.ensures
    (then modules (then segments (then length (then c.push_box.ensures (then deepest ending.text)))))
    (report_short c.args.self.now (omega arith) (omega arith) (omega arith) (omega arith) ending.short)
