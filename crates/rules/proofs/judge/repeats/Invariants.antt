use Rattle.std.proofs.Common.{◌≡◌, drop}
use Rattle.rules.specs.Wrong.{some_twice}
use Rattle.rules.proofs.judge.repeats.Given as goal

abbrev pub invariant-loop-i : goal.invariant-loop-i
invariant-loop-i l = some_twice (drop l.i l.names) ≡ some_twice l.names
