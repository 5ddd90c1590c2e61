use Rattle.report.proofs.Growing.{then}
use Rattle.report.proofs.text.push_line.Goals as goal

pub returns : goal.returns
returns c = then (then c.push.ensures c.push_number.ensures) c.push-2.ensures
