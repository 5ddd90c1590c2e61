use Rattle.std.proofs.Common.{◌≡◌, [], take}
use Rattle.expr.specs.Values.{guard}
use Rattle.expr.specs.Codes.{comparisons}
use Rattle.expr.specs.Records.{env_of}
use Rattle.expr.specs.Machine.{held}
use Rattle.expr.proofs.Working.{verdict}
use Rattle.expr.proofs.names.Names.guard_slowly.Given as goal

abbrev pub invariant-loop-place : goal.invariant-loop-place
invariant-loop-place l =
    verdict (env_of l.self) (held l.values) (take l.place-iterator.n l.place-iterator.iter.rest.now) ≡ guard (env_of l.self) (comparisons [] (take 200 l.code))
