use Rattle.std.proofs.Common.{◌≡◌, ◌≤◌, map, drop}
use Rattle.rules.specs.Records.{bare}
use Rattle.rules.specs.Wrong.{nests}
use Rattle.rules.proofs.nesting.nests.Given as goal

abbrev pub invariant-loop-p : goal.invariant-loop-p
invariant-loop-p l = (nests l.depth (map bare (drop l.p-index l.pieces)) ≡ nests 0 (map bare l.pieces)) × (l.depth ≤ l.p-index)
