use Rattle.std.proofs.Common.{◌≡◌, ◌≤◌, max, map, drop}
use Rattle.rules.specs.Records.{bare}
use Rattle.rules.specs.Wrong.{deepest}
use Rattle.rules.proofs.nesting.deepest.Given as goal

abbrev pub invariant-loop-p : goal.invariant-loop-p
invariant-loop-p l = (max l.most (deepest l.depth (map bare (drop l.p-index l.pieces))) ≡ deepest 0 (map bare l.pieces)) × (l.depth ≤ l.most) × (l.most ≤ l.p-index)
