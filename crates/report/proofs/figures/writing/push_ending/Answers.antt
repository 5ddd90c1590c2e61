use Rattle.std.proofs.Common.{arith}
use Rattle.report.proofs.Growing.{then}
use Rattle.report.proofs.Lengths.{fault_line}
use Rattle.report.proofs.figures.writing.push_ending.Goals as goal

pub returns-in-Broken-clause-text : goal.returns-in-Broken-clause-text
returns-in-Broken-clause-text c =
    let cause = rw c.from.ensures at c.push_number.ensures in
    let generation = rw c.from-in-Broken.ensures at c.push_number-in-Broken.ensures in
    let place = rw c.from-in-Broken-2.ensures at c.push_number-in-Broken-2.ensures in
    rw c.in-Broken.is (then (then c.push-in-Broken.ensures (then cause (then generation place))) c.push-in-Broken-2.ensures)

pub returns-in-Broken-clause-short : goal.returns-in-Broken-clause-short
returns-in-Broken-clause-short c = rw c.in-Broken.is (fault_line c.in-Broken.fault (omega arith) (omega arith) (omega arith))
