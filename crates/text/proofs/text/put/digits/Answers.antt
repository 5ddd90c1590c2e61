use Rattle.text.proofs.Decimals.{one, two, three, four, five, six, seven}
use Rattle.text.proofs.text.put.digits.Goals as goal

pub returns-then-number-lt10-clause-count : goal.returns-then-number-lt10-clause-count
returns-then-number-lt10-clause-count c = one _ c.if-number-lt10.true

pub returns-then-number-lt100-clause-count : goal.returns-then-number-lt100-clause-count
returns-then-number-lt100-clause-count c = two _ c.if-number-lt10.false c.if-number-lt100.true

pub returns-then-number-lt1000-clause-count : goal.returns-then-number-lt1000-clause-count
returns-then-number-lt1000-clause-count c = three _ c.if-number-lt100.false c.if-number-lt1000.true

pub returns-then-number-lt10000-clause-count : goal.returns-then-number-lt10000-clause-count
returns-then-number-lt10000-clause-count c = four _ c.if-number-lt1000.false c.if-number-lt10000.true

pub returns-then-number-lt100000-clause-count : goal.returns-then-number-lt100000-clause-count
returns-then-number-lt100000-clause-count c = five _ c.if-number-lt10000.false c.if-number-lt100000.true

pub returns-then-number-lt1000000-clause-count : goal.returns-then-number-lt1000000-clause-count
returns-then-number-lt1000000-clause-count c = six _ c.if-number-lt100000.false c.if-number-lt1000000.true

pub returns-else-number-lt1000000-clause-count : goal.returns-else-number-lt1000000-clause-count
returns-else-number-lt1000000-clause-count c = seven _ c.if-number-lt1000000.false c.requires
