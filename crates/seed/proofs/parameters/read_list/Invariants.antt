use Rattle.std.proofs.Common.{◌≡◌, map, Some}
use Rattle.rows.specs.Rows.{held}
use Rattle.seed.specs.Seeds.{integers}
use Rattle.seed.proofs.parameters.read_list.Given as goal

abbrev pub invariant-loop-part : goal.invariant-loop-part
invariant-loop-part l = integers (map (λ p. p.now) l.yielded) ≡ Some (held l.found)
