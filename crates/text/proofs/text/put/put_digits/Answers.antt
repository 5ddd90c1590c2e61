use Rattle.std.proofs.Common.{arith}
use Rattle.text.proofs.Over.{puts_digits}
use Rattle.text.proofs.text.put.put_digits.Goals as goal

pub returns-clause-puts : goal.returns-clause-puts
returns-clause-puts c =
    let wrote = c.write_digits.ensures in
    puts_digits c.args.at c.digits.result c.write_digits.result c.args.number c.from.result c.args.bytes.now c.write_digits.new.buf c.from.ensures c.digits.ensures.count wrote.start (omega arith) wrote.written wrote.before
