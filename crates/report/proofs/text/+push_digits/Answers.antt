use Rattle.std.proofs.Common.{◌≡◌, ◌%◌, arith}
use Rattle.std.proofs.lemmas.Fmt.{decimal_digit, decimal_step}
use Rattle.report.proofs.Growing.{then}
use Rattle.report.proofs.text.+push_digits.Goals as goal
use Rattle.report.proofs.text.+push_digits.Goals.{then-number-ge10, else-number-ge10}

pub returns : goal.returns
returns t c =
    let n = c.args.number in
    elim c.if-number-ge10.branch [
      | then-number-ge10 w ↦
          rw (decimal_step n w.if-number-ge10.true (omega arith)) (then w.push_digits.ensures (rw w.text-is at c.push.ensures))
      | else-number-ge10 w ↦
          let last : n % 10 ≡ n = omega arith in
          rw (decimal_digit n w.if-number-ge10.false) (rw (w.text-is, last) at c.push.ensures)
    ]
