use Rattle.std.proofs.Common.{◌≡◌, ◌^◌, ◌<◌, drop}
use Rattle.word.specs.Text.{worth, worth_after}
use Rattle.word.proofs.numbers.value.Given as goal

abbrev pub invariant-loop-d : goal.invariant-loop-d
invariant-loop-d l = (l.n < 10 ^ l.d-index) × (worth_after l.n (drop l.d-index l.digits) ≡ worth l.digits)
