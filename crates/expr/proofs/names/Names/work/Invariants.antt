use Rattle.std.proofs.Common.{◌≡◌, [], map, take}
use Rattle.expr.specs.Values.{value}
use Rattle.expr.specs.Codes.{decoded}
use Rattle.expr.specs.Records.{env_of}
use Rattle.expr.specs.Machine.{held}
use Rattle.expr.proofs.Working.{work}
use Rattle.expr.proofs.names.Names.work.Given as goal

abbrev pub invariant-loop-place : goal.invariant-loop-place
invariant-loop-place l =
    work (env_of l.self) (held l.values) (take l.place-iterator.n l.place-iterator.iter.rest.now) ≡ map (value (env_of l.self)) (decoded [] (take 200 l.code))
