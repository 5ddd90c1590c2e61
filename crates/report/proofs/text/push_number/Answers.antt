use Rattle.report.proofs.Growing.{then}
use Rattle.report.proofs.text.push_number.Goals as goal

pub returns : goal.returns
returns c = then c.push.ensures c.push_digits.ensures
