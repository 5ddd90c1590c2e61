use Rattle.std.proofs.Common.{to_z-of_z}
use Rattle.report.proofs.Growing.{then}
use Rattle.report.proofs.Signs.{negative, positive}
use Rattle.report.proofs.text.push_coordinate.Goals as goal
use Rattle.report.proofs.text.push_coordinate.Goals.{then-number-lt0, else-number-lt0}

pub returns : goal.returns
returns c =
    let n = c.args.number in
    let back = to_z-of_z c.ranges.number in
    let digits = rw (c.from.ensures, c.unsigned_abs.ensures.value, back) at c.push_digits.ensures in
    elim c.if-number-lt0.branch [
      | then-number-lt0 w ↦
          let below = rw back at w.if-number-lt0.true in
          rw (← negative n below) (then (rw w.push-is at c.push.ensures) digits)
      | else-number-lt0 w ↦
          let above = rw back at w.if-number-lt0.false in
          rw (← positive n above) (then (rw w.push-is at c.push.ensures) digits)
    ]
